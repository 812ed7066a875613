-- `cells::skip_zeros` meets its contract: the blocks before the one that was found are zero.
use mathlib.Core.Path.{◌≡◌, ap, ◌∙◌}
use borrow.Author.Rules.{rules}
use native.Mathlib.Omega.{arith}
use Rattle.std.specs.Slice.Iter.{chunks_exact_rest, chunks_exact_size}
use Rattle.cells.proofs.Blocks.{skipped}
use Rattle.cells.proofs.skip_zeros.Goals as goal

pub returns : goal.returns
returns c =
    let run = c.position.ensures.runs in
    let size : chunks_exact_size run.0.from ≡ 64 = ap chunks_exact_size run.1 ∙ c.chunks_exact.ensures.size in
    let rest : chunks_exact_rest run.0.from ≡ c.args.x.now = ap chunks_exact_rest run.1 ∙ c.chunks_exact.ensures.rest in
    let cut = rw (size, rest) at (c.chunks_exact.ensures.runs run.0 run.0.seen) in
    rw c.unwrap_or-blocks.ensures (skipped c.args.x.now _ (λ y called l h. search rules) _ run.0 c.position.result (λ a r f h. search rules) (cut (omega arith)) run.2)
