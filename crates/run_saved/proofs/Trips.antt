-- A run is what its bytes are, and bytes are what their run is.
-- Assumes nothing.
use Prim.Native.Nat.{ℕ, ◌+◌, ◌*◌, ◌-◌, ◌^◌, ◌≤◌, ◌<◌}
use native.Mathlib.Omega.{arith}
use mathlib.Core.Path.{◌≡◌, refl, sym, ap, ◌∙◌}
use mathlib.Core.List.{List, [], ◌++◌, append-nil}
use lib.IntN.{ℤ, pos}
use lib.ListN.{length, get_or, drop, length-drop, drop_of_length-le}
use lib.Seq.{drop-drop, drop_at}
use lib.Signed.{mag}
use Rattle.basis.specs.Limits.{max_variables, max_entries}
use Rattle.run_grants.specs.declared.Run.{Run}
use Rattle.run_saved.specs.Saved.{bytes, number, pattern, whole, plain, listed, numbers, encoded, decoded, restored, stored, values_at, verdict_at, entries_at, passes_at, saved_bytes}
use Rattle.run_saved.proofs.Bytes.{bytes_length, listed_length, numbers_length}
use Rattle.run_saved.proofs.Patterns.{whole_pattern, pattern_whole, pattern_small, whole_small}
use Rattle.run_saved.proofs.Saving.{Sized, restored_is, stored_is, encoded_length}
use Rattle.run_saved.proofs.Parts.{Small, small_drop, number_bytes, number_small, bytes_number, numbers_listed, listed_numbers, numbers_each}

-- what the numbers of a `Run` always are
pub record Ranged (run : Run) : Type 0 where
  pub position : run.position < 2 ^ 64
  pub count : run.count < 2 ^ 64
  pub captures : run.captures < 2 ^ 64
  pub steps : run.steps < 2 ^ 64
  pub verdict : run.verdict < 2 ^ 32
  pub constructs : (i : ℕ) → get_or run.constructs i 0 < 2 ^ 32
  pub passes : (i : ℕ) → get_or run.passes i 0 < 2 ^ 32
  pub values : (i : ℕ) → mag (get_or run.values i (pos 0)) < 2 ^ 63
  pub sized : Sized run

-- past a part stands the next
next : (bs xs rest : List ℕ) (at n to : ℕ) → drop at bs ≡ xs ++ rest → length xs ≡ n → at + n ≡ to → drop to bs ≡ rest
next bs xs rest at n to e l m = ap (λ (x : ℕ). drop x bs) (sym m) ∙ sym (drop-drop n at bs) ∙ ap (drop n) e ∙ drop_at xs rest n l

pub decoded_encoded : (run : Run) → Ranged run → decoded (encoded run) ≡ run
unfolding encoded decoded
decoded_encoded run h =
    let s = h.sized in
    let bs : List ℕ = encoded run in
    let rh : List ℕ = listed plain 4 run.passes in
    let rg : List ℕ = listed plain 4 run.constructs ++ rh in
    let rf : List ℕ = bytes 4 run.verdict ++ rg in
    let re : List ℕ = listed pattern 8 run.values ++ rf in
    let rd : List ℕ = bytes 8 run.steps ++ re in
    let rb : List ℕ = bytes 8 run.captures ++ rd in
    let ra : List ℕ = bytes 8 run.count ++ rb in
    let a : drop 8 bs ≡ ra = next bs (bytes 8 run.position) ra 0 8 8 refl (bytes_length 8 run.position) refl in
    let b : drop 16 bs ≡ rb = next bs (bytes 8 run.count) rb 8 8 16 a (bytes_length 8 run.count) refl in
    let d : drop 24 bs ≡ rd = next bs (bytes 8 run.captures) rd 16 8 24 b (bytes_length 8 run.captures) refl in
    let e : drop values_at bs ≡ re = next bs (bytes 8 run.steps) re 24 8 values_at d (bytes_length 8 run.steps) refl in
    let f : drop verdict_at bs ≡ rf = next bs (listed pattern 8 run.values) rf values_at (8 * max_variables) verdict_at e (listed_length pattern 8 run.values ∙ ap (8 *◌) s.values) refl in
    let g : drop entries_at bs ≡ rg = next bs (bytes 4 run.verdict) rg verdict_at 4 entries_at f (bytes_length 4 run.verdict) refl in
    let k : drop passes_at bs ≡ rh = next bs (listed plain 4 run.constructs) rh entries_at (4 * max_entries) passes_at g (listed_length plain 4 run.constructs ∙ ap (4 *◌) s.constructs) refl in
    let position : number 8 bs ≡ run.position = number_bytes 8 run.position ra h.position in
    let count : number 8 (drop 8 bs) ≡ run.count = ap (number 8) a ∙ number_bytes 8 run.count rb h.count in
    let captures : number 8 (drop 16 bs) ≡ run.captures = ap (number 8) b ∙ number_bytes 8 run.captures rd h.captures in
    let steps : number 8 (drop 24 bs) ≡ run.steps = ap (number 8) d ∙ number_bytes 8 run.steps re h.steps in
    let verdict : number 4 (drop verdict_at bs) ≡ run.verdict = ap (number 4) f ∙ number_bytes 4 run.verdict rg h.verdict in
    let values : numbers whole 8 max_variables (drop values_at bs) ≡ run.values =
    ap (numbers whole 8 max_variables) e ∙ ap (λ (n : ℕ). numbers whole 8 n re) (sym s.values)
    ∙ numbers_listed pattern whole 8 run.values (pos 0) rf (λ i. (whole_pattern (get_or run.values i (pos 0)) (h.values i), pattern_small (get_or run.values i (pos 0)) (h.values i))) in
    let constructs : numbers plain 4 max_entries (drop entries_at bs) ≡ run.constructs =
    ap (numbers plain 4 max_entries) g ∙ ap (λ (n : ℕ). numbers plain 4 n rg) (sym s.constructs)
    ∙ numbers_listed plain plain 4 run.constructs 0 rh (λ i. (refl, h.constructs i)) in
    let passes : numbers plain 4 max_entries (drop passes_at bs) ≡ run.passes =
    ap (numbers plain 4 max_entries) (k ∙ sym (append-nil rh)) ∙ ap (λ (n : ℕ). numbers plain 4 n (rh ++ [])) (sym s.passes)
    ∙ numbers_listed plain plain 4 run.passes 0 [] (λ i. (refl, h.passes i)) in
    λ t. record { position = position t; count = count t; captures = captures t; steps = steps t; verdict = verdict t; constructs = constructs t; passes = passes t; values = values t }

module _ (bs : List ℕ) (l : length bs ≡ saved_bytes) (h : Small bs) where
  -- a number's bytes, and a list's, with what follows them
  one : (w at to : ℕ) → at + w ≡ to → to ≤ saved_bytes → bytes w (number w (drop at bs)) ++ drop to bs ≡ drop at bs
  one w at to e k =
      ap (λ (x : ℕ). bytes w (number w (drop at bs)) ++ drop x bs) (sym e)
      ∙ ap (bytes w (number w (drop at bs)) ++◌) (sym (drop-drop w at bs))
      ∙ bytes_number w (drop at bs) (let z : length (drop at bs) ≡ length bs - at = length-drop at bs in omega arith) (small_drop at bs h)

  many : {A : Type 0} (f : A → ℕ) (g : ℕ → A) (w n at to : ℕ) → ((m : ℕ) → m < 256 ^ w → f (g m) ≡ m) → at + w * n ≡ to → to ≤ saved_bytes → listed f w (numbers g w n (drop at bs)) ++ drop to bs ≡ drop at bs
  many f g w n at to k e j =
      ap (λ (x : ℕ). listed f w (numbers g w n (drop at bs)) ++ drop x bs) (sym e)
      ∙ ap (listed f w (numbers g w n (drop at bs)) ++◌) (sym (drop-drop (w * n) at bs))
      ∙ listed_numbers f g w n (drop at bs) (let z : length (drop at bs) ≡ length bs - at = length-drop at bs in omega arith) (small_drop at bs h) k

  pub encoded_decoded : encoded (decoded bs) ≡ bs
  unfolding encoded decoded
  encoded_decoded =
      let end : drop saved_bytes bs ≡ [] = drop_of_length-le bs (let z : length bs ≤ saved_bytes = omega arith in z) in
      let passes : List ℕ = listed plain 4 (numbers plain 4 max_entries (drop passes_at bs)) in
      let last : passes ≡ drop passes_at bs = sym (append-nil passes) ∙ ap (passes ++◌) (sym end) ∙ many plain plain 4 max_entries passes_at saved_bytes (λ m k. refl) refl (omega arith) in
      ap (bytes 8 (number 8 bs) ++◌)
      (ap (bytes 8 (number 8 (drop 8 bs)) ++◌)
      (ap (bytes 8 (number 8 (drop 16 bs)) ++◌)
      (ap (bytes 8 (number 8 (drop 24 bs)) ++◌)
      (ap (listed pattern 8 (numbers whole 8 max_variables (drop values_at bs)) ++◌)
      (ap (bytes 4 (number 4 (drop verdict_at bs)) ++◌)
      (ap (listed plain 4 (numbers plain 4 max_entries (drop entries_at bs)) ++◌) last
      ∙ many plain plain 4 max_entries entries_at passes_at (λ m k. refl) refl (omega arith))
      ∙ one 4 verdict_at entries_at refl (omega arith))
      ∙ many pattern whole 8 max_variables values_at verdict_at (λ m k. pattern_whole m k) refl (omega arith))
      ∙ one 8 24 values_at refl (omega arith))
      ∙ one 8 16 24 refl (omega arith))
      ∙ one 8 8 16 refl (omega arith))
      ∙ one 8 0 8 refl (omega arith)

-- any bytes are a run
pub decoded_ranged : (bs : List ℕ) → Small bs → Ranged (decoded bs)
unfolding decoded
decoded_ranged bs h =
    let word : (at i : ℕ) → get_or (numbers plain 4 max_entries (drop at bs)) i 0 < 2 ^ 32 = λ at. numbers_each plain 4 (λ (x : ℕ). x < 2 ^ 32) 0 (omega arith) (λ m l. l) max_entries (drop at bs) (small_drop at bs h) in
    record {
      position = number_small 8 bs h;
      count = number_small 8 (drop 8 bs) (small_drop 8 bs h);
      captures = number_small 8 (drop 16 bs) (small_drop 16 bs h);
      steps = number_small 8 (drop 24 bs) (small_drop 24 bs h);
      verdict = number_small 4 (drop verdict_at bs) (small_drop verdict_at bs h);
      constructs = word entries_at;
      passes = word passes_at;
      values = numbers_each whole 8 (λ (x : ℤ). mag x < 2 ^ 63) (pos 0) (omega arith) (λ m l. whole_small m l) max_variables (drop values_at bs) (small_drop values_at bs h);
      sized = record { values = numbers_length whole 8 max_variables (drop values_at bs); constructs = numbers_length plain 4 max_entries (drop entries_at bs); passes = numbers_length plain 4 max_entries (drop passes_at bs) };
    }

-- no two lists of bytes are one run
pub decoded_apart : (bs cs : List ℕ) → length bs ≡ saved_bytes → length cs ≡ saved_bytes → Small bs → Small cs → decoded bs ≡ decoded cs → bs ≡ cs
decoded_apart bs cs l m h k e = sym (encoded_decoded bs l h) ∙ ap encoded e ∙ encoded_decoded cs m k

-- what is stored is restored
pub stored_restored : (run : Run) (out : List ℕ) → length out ≡ saved_bytes → Ranged run → restored (stored run out) ≡ run
stored_restored run out l h =
    ap restored (stored_is run out l) ∙ restored_is (encoded run) (encoded_length run h.sized) ∙ decoded_encoded run h
