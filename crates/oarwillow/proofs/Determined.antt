-- Each call determines what it gives: the proofs of the statements in specs/Determined. The promise of the call below leaves one answer,
-- and the results are that answer's.
use mathlib.Core.Path.{◌≡◌, sym, ◌∙◌}
use mathlib.Core.List.{List}
use mathlib.Core.Logic.{◌≢◌}
use Prim.Native.Nat.{ℕ, ◌+◌}
use native.Mathlib.Omega.{arith}
use lib.ListN.{length}
use Rattle.parity.specs.Shape.{stripe_length, bench_length}
use Rattle.inputs.specs.Rules.{stripe_rules, restore_rules, show_rules, list_rules}
use Rattle.checking.specs.Locates.{locate_rules}
use Rattle.evenodd.specs.Rewrites.{rewrite_rules}
use Rattle.evenodd.specs.Changes.{change_rules}
use Rattle.std.specs.Prelude.{Result, Ok, Err, ⊤}
use Rattle.inputs.specs.declared.lists.ListRefusal.{ListRefusal}
use Rattle.inputs.specs.declared.lists.ListRefusal.TheVariants.{Whole, Item}
use Rattle.evenodd.specs.ChangesAll as all
use Rattle.evenodd.specs.ChangesAll.{change_rules_of, ChangesAll}
use Rattle.refusals.specs.Refusals.{answer_number}
use Rattle.image.specs.Reads.{MapOf, contents_rules, read_rules}
use Rattle.refusals.proofs.Rules.{never_number, equal_of}
use Rattle.maps.specs.declared.Map.{Map}
use Rattle.refusals.specs.declared.Refusal.{Refusal}
use Rattle.maps.specs.Determined.{NewOne, OfBytesOne, AsBytesOne, FindsGapsOne}
use Rattle.maps.proofs.Determined.{new_one, of_bytes_one, as_bytes_one, finds_gaps_one}
use Rattle.checking.specs.Determined.{LocatesOne, ChecksOne}
use Rattle.checking.proofs.Determined.{locates_one, checks_one}
use Rattle.evenodd.specs.Determined.{PlacesOne, RestoresOne, RewritesOne, ChangesOne, ChangesAllOne, EncodesOne}
use Rattle.evenodd.proofs.Determined.{places_one, restores_one, rewrites_one, changes_one, changes_all_one, encodes_one}
use Rattle.image.specs.declared.answers.Contents.{Contents}
use Rattle.image.specs.Determined.{ContentsOne, ReadsOne}
use Rattle.image.proofs.Determined.{contents_one, reads_one}
use Rattle.image_writer.specs.Writes.{write_rules}
use Rattle.image_writer.specs.Determined.{WritesOne}
use Rattle.image_writer.proofs.Determined.{writes_one}
use Rattle.image_walker.specs.Steps.{walk_rules}
use Rattle.image_walker.specs.Determined.{StepsOne}
use Rattle.image_walker.proofs.Determined.{steps_one}
use Rattle.oarwillow.specs.Calls.{EncodeGives, CheckGives, RestoreGives, LocateGives, RewriteGives, ChangeGives, ChangesGives, ShowGives, ContentsWritten, ContentsGives, ReadGives, WriteGives, WalkGives}
use Rattle.oarwillow.specs.Determined.{EncodeGivesOne, CheckGivesOne, RestoreGivesOne, LocateGivesOne, RewriteGivesOne, ChangeGivesOne, ChangesGivesOne, ShowGivesOne, ContentsGivesOne, ReadGivesOne, WriteGivesOne, WalkGivesOne, GapsGivesOne, StripeLengthGivesOne, BenchLengthGivesOne, NeverLying}

pub encode_gives_one : EncodeGivesOne
unfolding EncodeGivesOne EncodesOne
encode_gives_one m k b s after after' r r' p q =
    let (e, bytes) = encodes_one m k b s after after' p.answer q.answer p.meets q.meets in
    (bytes, cc)

pub check_gives_one : CheckGivesOne
unfolding CheckGivesOne ChecksOne
check_gives_one m k b s x y z r x' y' z' r' p q =
    let e = checks_one m k b s p.answer q.answer p.meets q.meets in
    (cc, cc, cc, cc)

pub restore_gives_one : RestoreGivesOne
unfolding RestoreGivesOne RestoresOne OfBytesOne
restore_gives_one m k b places s bench after n x y r after' n' x' y' r' p q =
    let same = of_bytes_one places p.map q.map p.marked q.marked in
    let (e, bytes) = restores_one m k b p.map s bench after after' p.answer q.answer p.meets (rw same q.meets) in
    (bytes, cc, cc, cc, cc)

pub locate_gives_one : LocateGivesOne
unfolding LocateGivesOne LocatesOne
locate_gives_one m k b s x y r x' y' r' p q =
    let e = locates_one m k b s p.answer q.answer p.meets q.meets in
    (cc, cc, cc)

pub rewrite_gives_one : RewriteGivesOne
unfolding RewriteGivesOne RewritesOne
rewrite_gives_one m k b s after after' column r r' p q =
    let (e, bytes) = rewrites_one m k b column s after after' p.answer q.answer p.meets q.meets in
    (bytes, cc)

pub change_gives_one : ChangeGivesOne
unfolding ChangeGivesOne ChangesOne
change_gives_one m k b s after after' column row cell r r' p q =
    let (e, bytes) = changes_one m k b column row cell s after after' p.answer q.answer p.meets q.meets in
    (bytes, cc)

pub changes_gives_one : ChangesGivesOne
unfolding ChangesGivesOne ChangesAllOne
changes_gives_one m k b s after after' columns rows cells x r x' r' p q =
    let (e, bytes) = changes_all_one m k b columns rows cells s after after' p.answer q.answer p.meets q.meets in
    (bytes, cc, cc)

pub show_gives_one : ShowGivesOne
unfolding ShowGivesOne PlacesOne OfBytesOne
show_gives_one m k b places s bench column x y n r x' y' n' r' p q =
    let same = of_bytes_one places p.map q.map p.marked q.marked in
    let e = places_one m k b p.map s bench column p.answer q.answer p.meets (rw same q.meets) in
    (cc, cc, cc, cc)

-- an answer has one map
map_one : (r : Result Contents Refusal) (x y : Map) → MapOf r x → MapOf r y → x ≡ y
unfolding NewOne
map_one (Ok r) x y p q = p ∙ sym q
map_one (Err f) x y p q = new_one x y p q

-- what is answered determines what is written
written_one : (a c : Result Contents Refusal) (places : List ℕ) (x y z r : ℕ) (places' : List ℕ) (x' y' z' r' : ℕ) → a ≡ c
    → ContentsWritten a places x y z r → ContentsWritten c places' x' y' z' r'
    → (places ≡ places') × (x ≡ x') × (y ≡ y') × (z ≡ z') × (r ≡ r')
unfolding AsBytesOne
written_one a c places x y z r places' x' y' z' r' e p q =
    let same = map_one a p.map q.map p.own (rw e q.own) in
    (as_bytes_one p.map places places' p.marks (rw same q.marks), cc, cc, cc, cc)

pub contents_gives_one : ContentsGivesOne
unfolding ContentsGivesOne ContentsOne
contents_gives_one image places x y z r places' x' y' z' r' p q =
    written_one p.answer q.answer places x y z r places' x' y' z' r' (contents_one image p.answer q.answer p.meets q.meets) p.written q.written

pub read_gives_one : ReadGivesOne
unfolding ReadGivesOne ReadsOne
read_gives_one image s after places x y z r after' places' x' y' z' r' p q =
    let (e, bytes) = reads_one image s after after' p.answer q.answer p.meets q.meets in
    let (marks, first, second, third, number) = written_one p.answer q.answer places x y z r places' x' y' z' r' e p.written q.written in
    (bytes, marks, first, second, third, number)

pub write_gives_one : WriteGivesOne
unfolding WriteGivesOne WritesOne OfBytesOne
write_gives_one m k b places s image after n r after' n' r' p q =
    let same = of_bytes_one places p.map q.map p.marked q.marked in
    let (e, bytes) = writes_one m k b p.map s image after after' p.answer q.answer p.meets (rw same q.meets) in
    (bytes, cc, cc)

pub walk_gives_one : WalkGivesOne
unfolding WalkGivesOne StepsOne
walk_gives_one image place next x y n r next' x' y' n' r' p q =
    let e = steps_one image place p.answer q.answer p.meets q.meets in
    (cc, cc, cc, cc, cc)

pub gaps_gives_one : GapsGivesOne
unfolding GapsGivesOne OfBytesOne FindsGapsOne
gaps_gives_one k places n h x y z r n' h' x' y' z' r' p q =
    let same = of_bytes_one places p.map q.map p.marked q.marked in
    let e = finds_gaps_one p.map (k + 2) p.answer q.answer p.meets (rw same q.meets) in
    (cc, cc, cc, cc, cc, cc)

-- two numbers that are x where P holds, and 0 where it does not, are one; so it need not be decided which
length_one : {P : Type 0} (x r r' : ℕ) → (P → r ≡ x) → ((P → ⊥) → r ≡ 0) → (P → r' ≡ x) → ((P → ⊥) → r' ≡ 0) → r ≡ r'
length_one {P} x r r' good bad good' bad' = equal_of r r' (λ differ. let no : P → ⊥ = λ p. differ (good p ∙ sym (good' p)) in differ (bad no ∙ sym (bad' no)))

pub stripe_length_gives_one : StripeLengthGivesOne
unfolding StripeLengthGivesOne
stripe_length_gives_one m k b r r' p q = length_one (stripe_length m k b) r r' p.good p.bad q.good q.bad

pub bench_length_gives_one : BenchLengthGivesOne
unfolding BenchLengthGivesOne
bench_length_gives_one m b r r' p q = length_one (bench_length m b) r r' p.good p.bad q.good q.bad

-- ---- 17 is never given

pub never_lying : NeverLying
unfolding NeverLying
never_lying = (encoded, checked, located, rewritten, changed, all_changed, said, taken, written, walked, restored, shown)
  where
    encoded : (m k b : ℕ) (s after : List ℕ) (r : ℕ) → EncodeGives m k b s after r → r ≢ 17
    encoded m k b s after r p e = never_number 17 (stripe_rules m k b (length s)) _ (omega arith) (λ q. absurd (omega arith), (λ q. absurd (omega arith), (λ q. absurd (omega arith), (λ q. absurd (omega arith), tt)))) p.meets.told (sym p.number ∙ e)

    checked : (m k b : ℕ) (s : List ℕ) (x y z r : ℕ) → CheckGives m k b s x y z r → r ≢ 17
    checked m k b s x y z r p e = never_number 17 (stripe_rules m k b (length s)) _ (omega arith) (λ q. absurd (omega arith), (λ q. absurd (omega arith), (λ q. absurd (omega arith), (λ q. absurd (omega arith), tt)))) p.meets.told (sym p.number ∙ e)

    located : (m k b : ℕ) (s : List ℕ) (x y r : ℕ) → LocateGives m k b s x y r → r ≢ 17
    located m k b s x y r p e = never_number 17 (locate_rules m k b s) _ (omega arith) (λ q. absurd (omega arith), (λ q. absurd (omega arith), (λ q. absurd (omega arith), (λ q. absurd (omega arith), (λ q. absurd (omega arith), tt))))) p.meets.told (sym p.number ∙ e)

    rewritten : (m k b : ℕ) (s after : List ℕ) (column r : ℕ) → RewriteGives m k b s after column r → r ≢ 17
    rewritten m k b s after column r p e = never_number 17 (rewrite_rules m k b column s) _ (omega arith) (λ q. absurd (omega arith), (λ q. absurd (omega arith), (λ q. absurd (omega arith), (λ q. absurd (omega arith), (λ q. absurd (omega arith), (λ q. absurd (omega arith), tt)))))) p.meets.told (sym p.number ∙ e)

    changed : (m k b : ℕ) (s after : List ℕ) (column row : ℕ) (cell : List ℕ) (r : ℕ) → ChangeGives m k b s after column row cell r → r ≢ 17
    changed m k b s after column row cell r p e = never_number 17 (change_rules m k b column row cell s) _ (omega arith) (λ q. absurd (omega arith), (λ q. absurd (omega arith), (λ q. absurd (omega arith), (λ q. absurd (omega arith), (λ q. absurd (omega arith), (λ q. absurd (omega arith), (λ q. absurd (omega arith), tt))))))) p.meets.told (sym p.number ∙ e)

    -- the lists as a whole, or an item, by change's rules
    never_all : (m k b : ℕ) (s after columns rows cells : List ℕ) (a : Result ⊤ ListRefusal) → ChangesAll m k b columns rows cells s after a → answer_number (all.verdict_of a) ≢ 17
    never_all m k b s after columns rows cells (Ok _) p e = omega arith
    never_all m k b s after columns rows cells (Err (Whole f)) p e =
        never_number 17 (list_rules m k b (length s) (length columns) (length rows) (length cells)) _ (omega arith) (λ q. absurd (omega arith), (λ q. absurd (omega arith), (λ q. absurd (omega arith), (λ q. absurd (omega arith), (λ q. absurd (omega arith), tt))))) p.told e
    never_all m k b s after columns rows cells (Err (Item i f)) p e =
        never_number 17 (change_rules_of m k b columns rows cells s i) _ (omega arith) (λ q. absurd (omega arith), (λ q. absurd (omega arith), (λ q. absurd (omega arith), (λ q. absurd (omega arith), (λ q. absurd (omega arith), (λ q. absurd (omega arith), (λ q. absurd (omega arith), tt))))))) p.told.1.refused e

    all_changed : (m k b : ℕ) (s after columns rows cells : List ℕ) (x r : ℕ) → ChangesGives m k b s after columns rows cells x r → r ≢ 17
    all_changed m k b s after columns rows cells x r p e = never_all m k b s after columns rows cells p.answer p.meets (sym p.number ∙ e)

    said : (image places : List ℕ) (x y z r : ℕ) → ContentsGives image places x y z r → r ≢ 17
    said image places x y z r p e = never_number 17 (contents_rules image) _ (omega arith) (λ q. absurd (omega arith), (λ q. absurd (omega arith), (λ q. absurd (omega arith), (λ q. absurd (omega arith), (λ q. absurd (omega arith), tt))))) p.meets.told (sym p.written.number ∙ e)

    taken : (image s after places : List ℕ) (x y z r : ℕ) → ReadGives image s after places x y z r → r ≢ 17
    taken image s after places x y z r p e = never_number 17 (read_rules image (length s)) _ (omega arith) (λ q. absurd (omega arith), (λ q. absurd (omega arith), (λ q. absurd (omega arith), (λ q. absurd (omega arith), (λ q. absurd (omega arith), (λ q. absurd (omega arith), tt)))))) p.meets.told (sym p.written.number ∙ e)

    written : (m k b : ℕ) (places s before after : List ℕ) (n r : ℕ) → WriteGives m k b places s before after n r → r ≢ 17
    written m k b places s before after n r p e =
        never_number 17 (write_rules m k b p.map s (length before)) _ (omega arith)
        (λ q. absurd (omega arith), (λ q. absurd (omega arith), (λ q. absurd (omega arith), (λ q. absurd (omega arith), (λ _ lies. lies p.marked.truth, (λ q. absurd (omega arith), (λ q. absurd (omega arith), tt)))))))
        p.meets.told (sym p.number ∙ e)

    walked : (image : List ℕ) (place next x y n r : ℕ) → WalkGives image place next x y n r → r ≢ 17
    walked image place next x y n r p e = never_number 17 (walk_rules image place) _ (omega arith) (λ q. absurd (omega arith), (λ q. absurd (omega arith), (λ q. absurd (omega arith), (λ q. absurd (omega arith), (λ q. absurd (omega arith), (λ q. absurd (omega arith), tt)))))) p.meets.told (sym p.number ∙ e)

    restored : (m k b : ℕ) (places s bench after : List ℕ) (n x y r : ℕ) → RestoreGives m k b places s bench after n x y r → r ≢ 17
    restored m k b places s bench after n x y r p e =
        never_number 17 (restore_rules m k b p.map s (length bench)) _ (omega arith)
        (λ q. absurd (omega arith), (λ q. absurd (omega arith), (λ q. absurd (omega arith), (λ q. absurd (omega arith), (λ q. absurd (omega arith), (λ _ lies. lies p.marked.truth, (λ q. absurd (omega arith), (λ q. absurd (omega arith), (λ q. absurd (omega arith), tt)))))))))
        p.meets.told (sym p.number ∙ e)

    shown : (m k b : ℕ) (places s bench : List ℕ) (column x y n r : ℕ) → ShowGives m k b places s bench column x y n r → r ≢ 17
    shown m k b places s bench column x y n r p e =
        never_number 17 (show_rules m k b p.map (length s) (length bench) column) _ (omega arith)
        (λ q. absurd (omega arith), (λ q. absurd (omega arith), (λ q. absurd (omega arith), (λ q. absurd (omega arith), (λ q. absurd (omega arith), (λ _ lies. lies p.marked.truth, (λ q. absurd (omega arith), (λ q. absurd (omega arith), (λ q. absurd (omega arith), tt)))))))))
        p.meets.told (sym p.number ∙ e)
