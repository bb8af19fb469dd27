-- The reading's words: steps write pairs after those that stand there, and nothing else.
-- Assumes nothing.
use Prim.Native.Nat.{ℕ, zero, suc, ◌+◌, ◌*◌, ◌-◌, ◌≤◌}
use native.Mathlib.Omega.{arith}
use native.Mathlib.Numerals.{add-one}
use mathlib.Core.Path.{◌≡◌, refl, sym, ◌∙◌, ap, ap₂}
use mathlib.Core.Bool.{◌&&◌}
use mathlib.Core.List.{List, [], ◌∷◌, ◌++◌, append_assoc}
use lib.Dec.{leb, ltb}
use lib.IntN.{ℤ}
use lib.ListN.{length, get_or, set, take, drop, length-set, take-append-drop}
use lib.Seq.{take-suc, take-take, take-set-le, drop-set-lt, drop-drop}
use Rattle.basis.specs.Limits.{max_entries}
use Rattle.basis.proofs.Booleans.{either_way}
use Rattle.theory.specs.Derivation.{Capture}
use Rattle.run_actions.specs.Acts.{bits_of, act_of}
use Rattle.run_actions.specs.declared.Act.{Act}
use Rattle.run_steps.specs.Steps.{Whole, whole, break, take_done, effect, step_of, steps_of, Fits}
use Rattle.run_steps.specs.declared.Head.{Head}
use Rattle.run_steps.proofs.Running.{step_by}
use Rattle.run_refinement.specs.Runs.{recorded, words_of, head_of, reading_of}
use Rattle.run_steps.proofs.Running.{steps_fit}

-- from one run to a later one: fields are added, those recorded stay, and past the new ones the words stay
pub record Recorded (w w' : Whole) : Type 0 where
  pub lengths : length (reading_of w') ≡ length (reading_of w)
  pub added : (head_of w).captures ≤ (head_of w').captures
  pub before : take (2 * (head_of w).captures) (reading_of w') ≡ take (2 * (head_of w).captures) (reading_of w)
  pub past : drop (2 * (head_of w').captures) (reading_of w') ≡ drop (2 * (head_of w').captures) (reading_of w)

-- the fields stay where the number of them and the words do
same_reading : (cs ps cs' ps' : List ℕ) (vs vs' : List ℤ) (rs : List ℕ) (h h' : Head) → h.captures ≡ h'.captures → Recorded (whole cs ps vs rs h) (whole cs' ps' vs' rs h')
same_reading cs ps cs' ps' vs vs' rs h h' e = record { lengths = refl; added = omega arith; before = refl; past = refl }

less : (c d : ℕ) → c ≤ d → (l : List ℕ) → take (2 * c) l ≡ take (2 * c) (take (2 * d) l)
less c d h l = sym (take-take (2 * c) (2 * d) l (omega arith))

more : (c d : ℕ) → c ≤ d → (l : List ℕ) → drop (2 * d) l ≡ drop (2 * d - 2 * c) (drop (2 * c) l)
more c d h l = sym (drop-drop (2 * d - 2 * c) (2 * c) l ∙ ap (λ (n : ℕ). drop n l) (let z : 2 * c + (2 * d - 2 * c) ≡ 2 * d = omega arith in z))

pub recorded_then : (w w' w'' : Whole) → Recorded w w' → Recorded w' w'' → Recorded w w''
recorded_then w w' w'' a b =
    let c : ℕ = (head_of w).captures in
    let c' : ℕ = (head_of w').captures in
    let c'' : ℕ = (head_of w'').captures in
    record {
      lengths = b.lengths ∙ a.lengths;
      added = omega (arith, a.added, b.added);
      before =
          less c c' a.added (reading_of w'') ∙ (ap (take (2 * c)) b.before ∙ (sym (less c c' a.added (reading_of w')) ∙ a.before));
      past =
          b.past ∙ (more c' c'' b.added (reading_of w') ∙ (ap (drop (2 * c'' - 2 * c')) a.past ∙ sym (more c' c'' b.added (reading_of w))));
    }

module _ (ws fs cs ps : List ℕ) (vs : List ℤ) (rs : List ℕ) (h : Head) where
  abbrev w : Whole
  w = whole cs ps vs rs h

  stays : (cs' ps' : List ℕ) (vs' : List ℤ) (h' : Head) → h.captures ≡ h'.captures → Recorded w (whole cs' ps' vs' rs h')
  stays cs' ps' vs' h' e = same_reading cs ps cs' ps' vs vs' rs h h' e

  take_records : (i width binder : ℕ) (n : ℤ) → Recorded w (take_done fs cs ps vs rs h i width binder n)
  take_records i width binder n =
      let c : ℕ = h.captures in
      either_way (Recorded w) (leb (2 * c + 2) (length rs))
      (record {
        lengths = length-set (set rs (2 * c) i) (2 * c + 1) h.position ∙ length-set rs (2 * c) i;
        added = omega arith;
        before = take-set-le (2 * c) (set rs (2 * c) i) (2 * c + 1) h.position (omega arith) ∙ take-set-le (2 * c) rs (2 * c) i (omega arith);
        past = drop-set-lt (2 * (c + 1)) (set rs (2 * c) i) (2 * c + 1) h.position (omega arith) ∙ drop-set-lt (2 * (c + 1)) rs (2 * c) i (omega arith);
      })
      (stays cs ps vs (break h) refl)

  effect_records : (i k : ℕ) (a : Act) → Recorded w (effect ws fs i k cs ps vs rs h a)
  effect_records i k Act.Broken = stays _ _ _ _ refl
  effect_records i k Act.Fail = stays _ _ _ _ refl
  effect_records i k (Act.Enter b) = stays _ _ _ _ refl
  effect_records i k (Act.Members start end n) = either_way (Recorded w) (leb (h.count + n) (max_entries + 1)) (stays _ _ _ _ refl) (stays _ _ _ _ refl)
  effect_records i k (Act.Again b) = either_way (Recorded w) (ltb h.count max_entries && ltb k (bits_of fs + 1)) (stays _ _ _ _ refl) (stays _ _ _ _ refl)
  effect_records i k Act.Leave = stays _ _ _ _ refl
  effect_records i k (Act.Take width binder n) = take_records i width binder n

-- a step, and steps
pub step_records : (ws fs : List ℕ) (w : Whole) → Recorded w (step_of ws fs w)
step_records ws fs (whole cs ps vs rs h) =
    let i : ℕ = get_or cs (h.count - 1) 0 in
    let k : ℕ = get_or ps (h.count - 1) 0 in
    step_by ws fs (Recorded (whole cs ps vs rs h)) cs ps vs rs h (same_reading cs ps cs ps vs vs rs h h refl) (same_reading cs ps cs ps vs vs rs h (break h) refl)
    (λ some. effect_records ws fs cs ps vs rs h i k (act_of ws fs vs h.position i k))

pub steps_record : (ws fs : List ℕ) (n : ℕ) (w : Whole) → Recorded w (steps_of ws fs n w)
unfolding steps_of
steps_record ws fs zero (whole cs ps vs rs h) = same_reading cs ps cs ps vs vs rs h h refl
steps_record ws fs (suc n) w = recorded_then w (step_of ws fs w) (steps_of ws fs n (step_of ws fs w)) (step_records ws fs w) (steps_record ws fs n (step_of ws fs w))

-- ---- the words are the fields'

words_append : (a b : List Capture) → words_of (a ++ b) ≡ words_of a ++ words_of b
unfolding words_of
words_append [] b = refl
words_append (c ∷ a) b = ap (λ (l : List ℕ). c.construct ∷ c.first_bit ∷ l) (words_append a b)

pub words_recorded : (rs : List ℕ) (n : ℕ) → 2 * n ≤ length rs → words_of (recorded rs n) ≡ take (2 * n) rs
unfolding words_of recorded
words_recorded rs zero l = refl
words_recorded rs (suc n) l =
    let x : ℕ = get_or rs (2 * n) 0 in
    let y : ℕ = get_or rs (2 * n + 1) 0 in
    let z : 2 * suc n ≡ suc (2 * n + 1) = omega arith in
    words_append (recorded rs n) (record { construct = x; first_bit = y } ∷ [])
    ∙ (ap (λ (l : List ℕ). l ++ (x ∷ y ∷ [])) (words_recorded rs n (omega arith))
    ∙ sym
    (ap (λ (m : ℕ). take m rs) z
    ∙ (take-suc rs (2 * n + 1) 0 (omega arith)
    ∙ (ap (λ (m : ℕ). take m rs ++ (y ∷ [])) (add-one (2 * n)) ∙ (ap (λ (l : List ℕ). l ++ (y ∷ [])) (take-suc rs (2 * n) 0 (omega arith)) ∙ append_assoc (take (2 * n) rs) (x ∷ []) (y ∷ []))))))

-- after any steps the reading's words are those of the fields, and then what stood there at first
pub reading_is : (ws fs : List ℕ) (n : ℕ) (w : Whole) → Fits fs w
    → let w' = steps_of ws fs n w in reading_of w' ≡ words_of (recorded (reading_of w') (head_of w').captures) ++ drop (2 * (head_of w').captures) (reading_of w)
reading_is ws fs n w f =
    let w' : Whole = steps_of ws fs n w in
    let c : ℕ = (head_of w').captures in
    sym (take-append-drop (2 * c) (reading_of w')) ∙ ap₂ ◌++◌ (sym (words_recorded (reading_of w') c (room w' (steps_fit ws fs n w f)))) (steps_record ws fs n w).past
  where
    room : (w : Whole) → Fits fs w → 2 * (head_of w).captures ≤ length (reading_of w)
    room (whole cs ps vs rs h) f = f.2
