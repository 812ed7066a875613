-- Blocks of 64 bytes at which `skip_zeros` looks.
--   skipped   where the blocks of a run are zero up to the one that is not, or up to the last, so are the bytes
use mathlib.Core.Path.{◌≡◌, sym, ap, ◌∙◌}
use mathlib.Core.Bool.{true}
use mathlib.Core.List.{List, []}
use Prim.Native.Nat.{ℕ, ◌+◌, ◌*◌, ◌/◌, ◌%◌, ◌≤◌, ◌<◌}
use native.Mathlib.Omega.{arith}
use lib.ListN.{length, get_or}
use denote.Ref.{Bor}
use Rattle.std.specs.Prelude.{Option, Some, None, IfSome, IsSomeAnd, MatchOption, unwrap_or}
use Rattle.std.specs.Option.{option_map}
use Rattle.std.specs.Iterator.Runs.{Run, AllItems, AllItemsBelow, ItemsMapToExactChunks}
use Rattle.std.specs.List.{IsSubsliceAt}

module _ (x : List ℕ) where
  below_blocks : (n : ℕ) → ((k : ℕ) → k < n → (j : ℕ) → j < 64 → get_or x (k * 64 + j) 0 ≡ 0) → (l : ℕ) → l < 64 * n → get_or x l 0 ≡ 0
  below_blocks n zero l h = let e : l ≡ l / 64 * 64 + l % 64 = omega arith in ap (λ (p : ℕ). get_or x p 0) e ∙ zero (l / 64) (omega arith) (l % 64) (omega arith)

  module _ (Q : Bor (List ℕ) → Type 0) (quiet : (y : Bor (List ℕ)) → Q y → (l : ℕ) → l < length y.now → get_or y.now l 0 ≡ 0) where
    block : (o : Option (Bor (List ℕ))) (k : ℕ) → IfSome o (λ y. (length y.now ≡ 64) × (k * 64 + 64 ≤ length x) × IsSubsliceAt 64 x (k * 64) y.now) → IsSomeAnd o Q → (j : ℕ) → j < 64 → get_or x (k * 64 + j) 0 ≡ 0
    block None k cut so j h = absurd so
    block (Some y) k cut so j h = sym (cut.2.2 j 0 h) ∙ quiet y so j (omega arith)

    there : (o : Option (Bor (List ℕ))) (d : Bor (List ℕ)) → option_map (λ y. y) o ≡ Some d → IfSome o Q → IsSomeAnd o Q
    there None d e so = absurd (cc)
    there (Some y) d e so = so

    pub skipped : {S K : Type 0} {steps : S → Option (Bor (List ℕ)) → S → Type 0} (X : ℕ → Type 0) (p : Run steps) (r : Option ℕ) → K → ItemsMapToExactChunks p (λ y. y.now) 64 x
        → MatchOption r ((p.whole ≡ true) × (K → AllItems p Q)) (λ i. (p.len ≡ i + 1) × (K → X i × AllItemsBelow p i Q))
        → (64 * unwrap_or r (length x / 64) ≤ length x) × ((l : ℕ) → l < 64 * unwrap_or r (length x / 64) → get_or x l 0 ≡ 0)
    skipped X p None keeps cut so =
        let size : p.len ≡ length x / 64 = cut.1 so.0 in
        (omega arith, below_blocks (length x / 64) (λ k h. block (p.at k) k (cut.2 k) (there (p.at k) _ (p.reads k record { ref_ptr = (0, 0); now = [] } (omega arith)) (so.1 keeps k))))
    skipped X p (Some i) keeps cut so = (omega arith, below_blocks i (λ k h. block (p.at k) k (cut.2 k) ((so.1 keeps).1 k h)))
