-- What a step over an image and a walker promise, and that the promises determine what is handed out.
pub mod Steps
pub mod Finding
pub mod Walks
pub mod Determined
