-- `image::reading::contents` meets its contract: each test that fails shows which rule of the contents applies, and past every test the image is well formed.
use mathlib.Core.Path.{◌≡◌, sym, ◌∙◌}
use native.Mathlib.Omega.{arith}
use Rattle.parity.specs.Shape.{Shape, column_length}
use Rattle.refusals.proofs.Rules.{handed_on}
use Rattle.inputs.proofs.ShapeLaws.{column_most, places_most, judged_good}
use Rattle.image.proofs.Verdicts.{Header, contents_ill, ill_short, ill_entry, ill_length, contents_good}
use Rattle.image.proofs.reading.contents.Goals as goal
use Rattle.image.proofs.reading.contents.Goals.{In_ok-column}

-- the numbers at the image's start
header : (c : In_ok-column) → Header c.args.image.now c.two-m.result c.two-k.result c.two-b.result
header c = record {
  long = c.if-image-lt8.false;
  first = c.two-m.ensures.0;
  second = c.two-k.ensures.0;
  third = c.two-b.ensures.0;
  fourth = sym c.two.ensures.0 ∙ c.if-two-ne0.false;
}

-- past the shape check they are a shape
good : (c : In_ok-column) → Shape c.two-m.result c.two-k.result c.two-b.result × (c.in_ok-column.column ≡ column_length c.two-m.result c.two-b.result)
good c = judged_good _ _ _ c.in_ok-column.ensures

pub returns-then-image-columns : goal.returns-then-image-columns
returns-then-image-columns c =
    let at = (goal.at.returns-then-image-columns c).In_ok-column in
    contents_ill (header at) (good at).0 (ill_short (header at) (good at).0 c.if-image-columns.true)

pub of-requires : goal.of-requires
of-requires c =
    let (shape, column) = good (goal.at.of-requires c).In_ok-column in
    (c.if-image-columns.false, places_most shape, rw column (column_most shape))

pub returns-in_err-table : goal.returns-in_err-table
returns-in_err-table c =
    let at = (goal.at.returns-in_err-table c).In_ok-column in
    let (shape, column) = good at in
    let (malformed, wrong) = c.in_err-table.ensures in
    rw (handed_on c.from_residual-in_err-table.result c.from_residual-in_err-table.ensures.1, malformed) (contents_ill (header at) shape (ill_entry (header at) shape column wrong))

pub returns-then-table-image : goal.returns-then-table-image
returns-then-table-image c =
    let at = (goal.at.returns-then-table-image c).In_ok-column in
    let (shape, column) = good at in
    contents_ill (header at) shape (ill_length (header at) shape column c.in_ok-table.ensures c.if-table-image.true)

pub returns : goal.returns
returns c =
    let at = (goal.at.returns c).In_ok-column in
    let (shape, column) = good at in
    contents_good (header at) shape column c.in_ok-table.ensures (λ x. omega (arith, c.type_inv.image x)) c.if-table-image.false c.of_places.ensures
