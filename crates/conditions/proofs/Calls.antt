-- The conditions of a C program's calls, from those of the crates' calls.
-- Assumes nothing.
use Prim.Native.Nat.{ℕ, suc, ◌+◌, ◌*◌, ◌-◌, ◌≤◌, min}
use mathlib.Core.Path.{◌≡◌, refl, sym, ap, ap₂, subst, subst₂, ◌∙◌}
use mathlib.Core.Logic.{◌⊎◌, inl, inr, ◌↔◌}
use mathlib.Core.Bool.{Bool, true, false, cond}
use mathlib.Core.List.{List, [], ◌∷◌}
use mathlib.Core.Option.{Option, none, some}
use native.Mathlib.Omega.{arith}
use borrow.Author.Tests.{eqb-true, eqb-false, eq-eqb, ne_eqb}
use lib.Dec.{eqb, ltb}
use lib.ListN.{length, get_or, set, take, drop, length-set}
use lib.Seq.{sets, length-sets, drop-set-lt, get_or-set_same}
use Rattle.basis.specs.Limits.{max_frame_bytes, max_entries}
use Rattle.table_layout.specs.Places.{table_of}
use Rattle.run_actions.specs.Acts.{bits_of}
use Rattle.table_conflicts.specs.declared.Clash.{Clash}
use Rattle.text_admission.specs.Answers.{number_of as text-number}
use Rattle.text_admission.specs.declared.Admission.{Admission}
use Rattle.run_grants.specs.Runs.{closed_run, After, run_in, reading_in, answer_in, grant_of, number_of, taken_of}
use Rattle.run_grants.specs.Composing.{further}
use Rattle.run_grants.specs.declared.Run.{Run}
use Rattle.run_grants.specs.declared.Answer.{Answer as GrantAnswer}
use Rattle.run_grants.proofs.Grants.{refusal_told, grants_compose}
use Rattle.run_saved.specs.Saved.{plain, saved_bytes, encoded, decoded, restored, entries_at, passes_at}
use Rattle.run_saved.proofs.Bytes.{numbers_length}
use Rattle.run_saved.proofs.Saving.{restored_is}
use Rattle.run_matcher.specs.Opening.{Answered, Opened, run_given, number_of as opening_number}
use Rattle.run_matcher.specs.declared.Answer.{Answer}
use Rattle.run_matcher.specs.Conditions.{Grant, own, Kept, granted as steps-granted, kept, run_kept, reading_kept, Decided, start, here, call, next, after_grants, OthersRefused, EachCounts as GrantsCount}
use Rattle.run_matcher.proofs.Answers.{answer_once}
use Rattle.songrafter.specs.Calls.{Admits, number_with_room, Opens, granted, Grants}
use Rattle.text_admission.specs.Answers.{told}
use Rattle.tree_meaning.specs.Local.{local_grammar}
use Rattle.admission.specs.Promised.{Promised}
use Rattle.admission.proofs.Numbers.{refused_number}
use Rattle.conditions.specs.Conditions.{CopyOf, HasTable, Exact}
use Rattle.conditions.specs.Meaning.{Seeing}
use Rattle.conditions.specs.Calls.{AdmitLeaves, OpenLeaves, GrantLeaves, Calls1, OneOutcome, OneAndMany, Calls2, handed, left, Kiosk, no_call, own_call, other_call, EachCounts, Calls3}
use Rattle.conditions.proofs.Buffers.{condition_1}
use Rattle.conditions.proofs.Tables.{text_table}
use Rattle.conditions.proofs.OneAnswer.{one_answer}
use Rattle.conditions.proofs.Conditions.{condition_2, at_most_one, condition_3}
use Rattle.conditions.proofs.Seeing.{seen_of, seeing}

-- ---- songrafter_admit

drop_sets : (vs l : List ℕ) (i n : ℕ) → i + length vs ≤ n → drop n (sets l i vs) ≡ drop n l
drop_sets [] l i n h = refl
drop_sets (a ∷ vs) l i n h = drop_sets vs (set l i a) (suc i) n (omega arith) ∙ drop-set-lt n l i a (omega arith)

five : (a : Admission) → length (told a) ≡ 5
five (Admission.Admitted weight) = refl
five (Admission.Refused number place) = refl
five (Admission.Conflict place construct Clash.None) = refl
five (Admission.Conflict place construct (Clash.Branches window first second)) = refl
five (Admission.Conflict place construct (Clash.Passes window)) = refl

admit_leaves : (text table table' answer answer' : List ℕ) (number : ℕ) → Admits text table table' answer answer' number → AdmitLeaves table table' answer answer' number
admit_leaves text table table' answer answer' number a =
    let c = a.promised.leaves in
    record {
      numbered = subst (λ (n : ℕ). n ≤ 13) (sym a.number_is) c.number;
      refused = λ h. c.refused (λ e. h (a.number_is ∙ e));
      beyond = (c.length_kept, c.beyond);
      answer_beyond = (ap length a.told_is ∙ length-sets answer 0 (told a.admission), ap (drop 5) a.told_is ∙ drop_sets (told a.admission) answer 0 5 (omega (arith, five a.admission)));
    }

-- the weight of a text that was admitted
first_of_five : (answer : List ℕ) (n : ℕ) → 1 ≤ length answer → get_or (sets answer 0 (n ∷ 0 ∷ 0 ∷ 0 ∷ 0 ∷ [])) 0 0 ≡ n
first_of_five [] n h = absurd (omega arith)
first_of_five (x ∷ xs) n h = refl

record Weighed (text old table answer answer' : List ℕ) : Type 0 where
  weight : ℕ
  told_so : 1 ≤ length answer → get_or answer' 0 0 ≡ weight
  answers : Promised text old table (Admission.Admitted weight)

weighed : (text old table answer answer' : List ℕ) → Admits text old table answer answer' 0 → Weighed text old table answer answer'
weighed text old table answer answer' a = by a.admission a.promised a.number_is a.told_is
  where
    by : (x : Admission) → Promised text old table x → 0 ≡ text-number x → answer' ≡ sets answer 0 (told x) → Weighed text old table answer answer'
    by (Admission.Admitted weight) p e t = record { weight = weight; told_so = λ h. ap (λ (l : List ℕ). get_or l 0 0) t ∙ first_of_five answer weight h; answers = p }
    by (Admission.Refused number place) p e t = absurd (omega (arith, (refused_number text old table number place p.answers).0, e))
    by (Admission.Conflict place construct clash) p e t = absurd (omega (arith, e))

-- ---- songrafter_open

abbrev numbered_so : Answer → Bool → ℕ
numbered_so answer s = cond (eqb (opening_number answer) 0) (cond s 0 24) (opening_number answer)

open_numbers : (answer : Answer) (s : Bool) → (numbered_so answer s ≡ 0) ⊎ (numbered_so answer s ≡ 21) ⊎ (numbered_so answer s ≡ 22) ⊎ (numbered_so answer s ≡ 23) ⊎ (numbered_so answer s ≡ 24)
open_numbers Answer.Unsound s = inr (inr (inr (inl refl)))
open_numbers Answer.LongFrame s = inr (inl refl)
open_numbers Answer.SmallReading s = inr (inr (inl refl))
open_numbers Answer.Opened true = inl refl
open_numbers Answer.Opened false = inr (inr (inr (inr refl)))

open_24 : (answer : Answer) → numbered_so answer true ≡ 24 → ⊥
open_24 Answer.Unsound e = omega (arith, e)
open_24 Answer.LongFrame e = omega (arith, e)
open_24 Answer.SmallReading e = omega (arith, e)
open_24 Answer.Opened e = omega (arith, e)

open_refused : (answer : Answer) → (numbered_so answer true ≡ 0 → ⊥) → run_given answer ≡ closed_run
open_refused Answer.Unsound h = refl
open_refused Answer.LongFrame h = refl
open_refused Answer.SmallReading h = refl
open_refused Answer.Opened h = absurd (h refl)

open_answered : (answer : Answer) (s : Bool) → numbered_so answer s ≡ 0 → (answer ≡ Answer.Opened) × (s ≡ true)
open_answered Answer.Unsound s e = absurd (omega (arith, e))
open_answered Answer.LongFrame s e = absurd (omega (arith, e))
open_answered Answer.SmallReading s e = absurd (omega (arith, e))
open_answered Answer.Opened true e = (refl, refl)
open_answered Answer.Opened false e = absurd (omega (arith, e))

module _ (table frame reading run run' : List ℕ) (number : ℕ) (o : Opens table frame reading run run' number) where
  zero_is : number ≡ 0 → (o.answer ≡ Answer.Opened) × (length run ≡ saved_bytes)
  zero_is e =
      let z = open_answered o.answer (eqb (length run) saved_bytes) (sym o.number_is ∙ e) in
      (z.0, eqb-true (length run) saved_bytes z.1)

  is_zero : o.answer ≡ Answer.Opened → length run ≡ saved_bytes → number ≡ 0
  is_zero e l = o.number_is ∙ ap₂ numbered_so e (eq-eqb (length run) saved_bytes l)

  open_leaves : OpenLeaves run run' number
  open_leaves =
      record {
        numbered = subst (λ (n : ℕ). (n ≡ 0) ⊎ (n ≡ 21) ⊎ (n ≡ 22) ⊎ (n ≡ 23) ⊎ (n ≡ 24)) (sym o.number_is) (open_numbers o.answer (eqb (length run) saved_bytes));
        run_length = o.run_length;
        refused = λ h l. o.read_back l ∙ open_refused o.answer (λ e. h (o.number_is ∙ ap (numbered_so o.answer) (eq-eqb (length run) saved_bytes l) ∙ e));
        other_only = λ e l. open_24 o.answer (sym (ap (numbered_so o.answer) (eq-eqb (length run) saved_bytes l)) ∙ sym o.number_is ∙ e);
        other_length = λ h. (λ e. h (zero_is e).1, o.run_is ∙ ap (λ (s : Bool). cond s (encoded (run_given o.answer)) run) (ne_eqb (length run) saved_bytes h));
      }

-- ---- songrafter_grant

-- 0, 21 or 24
abbrev GrantNumber : ℕ → Type 0
GrantNumber n = (n ≡ 0) ⊎ (n ≡ 21) ⊎ (n ≡ 24)

no_run_numbers : (b : Bool) → GrantNumber (cond b 21 24)
no_run_numbers true = inr (inl refl)
no_run_numbers false = inr (inr refl)

module _ (table frame reading reading' run run' taken taken' : List ℕ) (steps number : ℕ) (g : Grants table frame reading reading' run run' taken taken' steps number) where
  count_beyond : (n : ℕ) → taken' ≡ set taken 0 n → (length taken' ≡ length taken) × (drop 1 taken' ≡ drop 1 taken)
  count_beyond n e = (ap length e ∙ length-set taken 0 n, ap (drop 1) e ∙ drop-set-lt 1 taken 0 n (omega arith))

  of_saved : length run ≡ saved_bytes → GrantLeaves reading reading' run run' taken taken' number
  of_saved l =
      let x = granted table frame reading run steps in
      let c = condition_1.granting (table_of table) frame reading (decoded run) steps in
      let s = g.saved l in
      let b = g.read_back l in
      record {
        numbered = subst GrantNumber (sym s.0) c.number;
        refused = λ h. ((g.refused h).1, (g.refused h).0, s.3 ∙ ap (set taken 0) (c.refused (λ e. h (s.0 ∙ e))).2);
        at_rest = λ h.
            let u = c.at_rest (λ e. h (ap (λ (r : Run). r.verdict) (restored_is run l) ∙ e)) in
            (s.2 ∙ ap encoded u.0 ∙ b.0, s.1 ∙ u.1, s.3 ∙ ap (set taken 0) u.2);
        run_length = g.run_length;
        beyond = (ap length s.1 ∙ c.length_kept, subst (λ (r : Run). drop (2 * r.captures) reading' ≡ drop (2 * r.captures) reading) (sym b.1) (ap (drop (2 * (run_in x).captures)) s.1 ∙ c.beyond));
        before = subst (λ (r : Run). take (2 * r.captures) reading' ≡ take (2 * r.captures) reading) (sym (restored_is run l)) (ap (take (2 * (decoded run).captures)) s.1 ∙ c.before);
        taken_beyond = count_beyond (taken_of (answer_in x)) s.3;
      }

  of_other : (length run ≡ saved_bytes → ⊥) → GrantLeaves reading reading' run run' taken taken' number
  of_other h =
      let s = g.other h in
      record {
        numbered = subst GrantNumber (sym s.0) (no_run_numbers (ltb max_frame_bytes (length frame)));
        refused = λ e. (s.2, s.1, s.3);
        at_rest = λ e. (s.2, s.1, s.3);
        run_length = g.run_length;
        beyond = (ap length s.1, ap (drop (2 * (restored run').captures)) s.1);
        before = ap (take (2 * (restored run).captures)) s.1;
        taken_beyond = count_beyond 0 s.3;
      }

  grant_leaves : GrantLeaves reading reading' run run' taken taken' number
  grant_leaves = by (eqb (length run) saved_bytes) refl
    where
      by : (b : Bool) → eqb (length run) saved_bytes ≡ b → GrantLeaves reading reading' run run' taken taken' number
      by true e = of_saved (eqb-true (length run) saved_bytes e)
      by false e = of_other (eqb-false (length run) saved_bytes e)

pub calls_1 : Calls1
calls_1 = record { admitting = admit_leaves; opening = open_leaves; granting = grant_leaves }

-- ---- one outcome

admit_once : (text table table₁ table₂ answer answer₁ answer₂ : List ℕ) (m n : ℕ) → Admits text table table₁ answer answer₁ m → Admits text table table₂ answer answer₂ n
    → (m ≡ n) × (table₁ ≡ table₂) × (answer₁ ≡ answer₂)
admit_once text table table₁ table₂ answer answer₁ answer₂ m n a b =
    let e = one_answer text table table₁ table₂ a.admission b.admission a.promised b.promised in
    (a.number_is ∙ ap text-number e.0 ∙ sym b.number_is, e.1, a.told_is ∙ ap (λ (x : Admission). sets answer 0 (told x)) e.0 ∙ sym b.told_is)

open_once : (table frame reading run run₁ run₂ : List ℕ) (m n : ℕ) → Opens table frame reading run run₁ m → Opens table frame reading run run₂ n → (m ≡ n) × (run₁ ≡ run₂)
open_once table frame reading run run₁ run₂ m n a b =
    let e : a.answer ≡ b.answer = answer_once table frame reading a.answer b.answer a.answered b.answered in (
      a.number_is ∙ ap (λ (x : Answer). number_with_room (opening_number x) (length run)) e ∙ sym b.number_is,
      a.run_is ∙ ap (λ (x : Answer). cond (eqb (length run) saved_bytes) (encoded (run_given x)) run) e ∙ sym b.run_is,
    )

grant_once : (table frame reading reading₁ reading₂ run run₁ run₂ taken taken₁ taken₂ : List ℕ) (steps m n : ℕ)
    → Grants table frame reading reading₁ run run₁ taken taken₁ steps m → Grants table frame reading reading₂ run run₂ taken taken₂ steps n
    → (m ≡ n) × (reading₁ ≡ reading₂) × (run₁ ≡ run₂) × (taken₁ ≡ taken₂)
grant_once table frame reading reading₁ reading₂ run run₁ run₂ taken taken₁ taken₂ steps m n a b = by (eqb (length run) saved_bytes) refl
  where
    by : (s : Bool) → eqb (length run) saved_bytes ≡ s → (m ≡ n) × (reading₁ ≡ reading₂) × (run₁ ≡ run₂) × (taken₁ ≡ taken₂)
    by true e =
        let l = eqb-true (length run) saved_bytes e in
        let p = a.saved l in
        let q = b.saved l in
        (p.0 ∙ sym q.0, p.1 ∙ sym q.1, p.2 ∙ sym q.2, p.3 ∙ sym q.3)
    by false e =
        let l = eqb-false (length run) saved_bytes e in
        let p = a.other l in
        let q = b.other l in
        (p.0 ∙ sym q.0, p.1 ∙ sym q.1, p.2 ∙ sym q.2, p.3 ∙ sym q.3)

pub one_outcome : OneOutcome
one_outcome = record { admitting = admit_once; opening = open_once; granting = grant_once }

-- ---- one grant and many

pub one_and_many : OneAndMany
unfolding decoded
one_and_many table frame reading reading₁ reading₂ reading₃ run run₁ run₂ run₃ t t₁ u u₁ v v₁ m n a b c g h k = by (eqb (length run) saved_bytes) refl
  where
    -- what is written where there is room is read there
    written : (xs : List ℕ) (d : ℕ) (ys : List ℕ) → ys ≡ set xs 0 d → 1 ≤ length xs → get_or ys 0 0 ≡ d
    written xs d ys e l = ap (λ (zs : List ℕ). get_or zs 0 0) e ∙ get_or-set_same xs 0 d 0 (omega (arith, l))

    by : (s : Bool) → eqb (length run) saved_bytes ≡ s
        → (a ≡ c) × (b ≡ c) × (run₂ ≡ run₃) × (reading₂ ≡ reading₃) × (1 ≤ length t → 1 ≤ length u → 1 ≤ length v → get_or t₁ 0 0 + get_or u₁ 0 0 ≡ get_or v₁ 0 0)
    by true e =
        let l : length run ≡ saved_bytes = eqb-true (length run) saved_bytes e in
        let full : length run₁ ≡ saved_bytes = g.run_length ∙ l in
        let x = g.saved l in
        let y = h.saved full in
        let z = k.saved l in
        let first = refusal_told (table_of table) frame reading (decoded run) m in
        let whole = refusal_told (table_of table) frame reading (decoded run) (m + n) in
        let read : decoded run₁ ≡ run_in (granted table frame reading run m) = sym (restored_is run₁ full) ∙ (g.read_back l).1 in
        let then : granted table frame reading₁ run₁ n ≡ further (table_of table) frame (granted table frame reading run m) n =
        ap₂ (λ (r : Run) (rs : List ℕ). grant_of (table_of table) frame rs r n) read x.1 in
        let w = grants_compose (table_of table) frame reading (decoded run) m n (numbers_length plain 4 max_entries (drop entries_at run), numbers_length plain 4 max_entries (drop passes_at run)) in (
          x.0 ∙ first ∙ sym whole ∙ sym z.0,
          y.0 ∙ ap (λ (q : After). number_of (answer_in q)) then ∙ w.number ∙ sym z.0,
          y.2 ∙ ap (λ (q : After). encoded (run_in q)) then ∙ ap encoded w.run ∙ sym z.2,
          y.1 ∙ ap reading_in then ∙ w.reading ∙ sym z.1,
          (λ p q r. ap₂ ◌+◌ (written t _ t₁ x.3 p) (written u _ u₁ y.3 q ∙ ap (λ (s : After). taken_of (answer_in s)) then) ∙ w.taken ∙ sym (written v _ v₁ z.3 r)),
        )
    by false e =
        let l : length run ≡ saved_bytes → ⊥ = eqb-false (length run) saved_bytes e in
        let x = g.other l in
        let y = h.other (λ z. l (sym g.run_length ∙ z)) in
        let z = k.other l in (
          x.0 ∙ sym z.0,
          y.0 ∙ sym z.0,
          y.2 ∙ x.2 ∙ sym z.2,
          y.1 ∙ x.1 ∙ sym z.1,
          (λ p q r. ap₂ ◌+◌ (written t 0 t₁ x.3 p) (written u 0 u₁ y.3 q) ∙ sym (written v 0 v₁ z.3 r)),
        )

-- ---- 2

-- the table that was left, or a copy of it
copied : (text old left answer answer' : List ℕ) (a : Admits text old left answer answer' 0) (table : List ℕ) → CopyOf table left → HasTable text table (weighed text old left answer answer' a).weight
copied text old left answer answer' a table c = record { old = old; left = left; promised = (weighed text old left answer answer' a).answers; copy = c }

opens_where : (text old left answer answer' : List ℕ) → Admits text old left answer answer' 0 → (table : List ℕ) → CopyOf table left
    → (frame reading run run' : List ℕ) (number : ℕ) → Opens table frame reading run run' number
    → (number ≡ 0) ↔ ((length frame ≤ max_frame_bytes) × (2 * bits_of frame ≤ length reading) × (length run ≡ saved_bytes))
opens_where text old left answer answer' a table copy frame reading run run' number o =
    let w = weighed text old left answer answer' a in
    let e = condition_2.opened text table w.weight (copied text old left answer answer' a table copy) frame reading o.answer o.answered in (
      λ z. let y = zero_is table frame reading run run' number o z in ((e.0 y.0).0, (e.0 y.0).1, y.1),
      λ h. is_zero table frame reading run run' number o (e.1 (h.0, h.1)) h.2,
    )

pub calls_2 : Calls2
calls_2 =
    record { admitting = λ text table table' answer answer' number a. (a.admission, a.promised.exactly, a.number_is, a.told_is); opening = opens_where }

-- ---- the kiosk's calls

-- the bytes and the words are those of a run and a reading kept between grants
record Same (run reading : List ℕ) (k : Kept) : Type 0 where
  full : length run ≡ saved_bytes
  bytes_are : run ≡ encoded (run_kept k)
  read_as : decoded run ≡ run_kept k
  words_are : reading ≡ reading_kept k

-- what a refused call leaves of the kiosk's own is what it had
left_same : (mine : List ℕ) (h : Option (List ℕ)) (xs : List ℕ) → xs ≡ handed mine h → left mine h xs ≡ mine
left_same mine none xs e = e
left_same mine (some ys) xs e = refl

module _ (table frame : List ℕ) where
  -- of none but own grants no other has to be refused
  owns_refuse : {run reading run' reading' : List ℕ} {gs : List Grant} → Kiosk table frame run reading gs run' reading' → (k : Kept) → OthersRefused table frame gs k
  unfolding OthersRefused
  owns_refuse no_call k = tt
  owns_refuse (own_call reading₁ run₁ taken taken₁ steps number g cs) k = (tt, owns_refuse cs (next table frame k (own steps)))
  owns_refuse (other_call t f r b reading₁ run₁ taken taken₁ steps number g cs) k = owns_refuse cs k

  module _ (run reading reading₁ run₁ taken taken₁ : List ℕ) (steps number : ℕ) (k : Kept) (s : Same run reading k) (g : Grants table frame reading reading₁ run run₁ taken taken₁ steps number) where
    -- a grant of its own is a grant to the run kept
    same_grant : granted table frame reading run steps ≡ call table frame k (own steps)
    same_grant = ap₂ (λ (r : Run) (rs : List ℕ). grant_of (table_of table) frame rs r steps) s.read_as s.words_are

    after_own : Same run₁ reading₁ (next table frame k (own steps))
    after_own =
        let x = g.saved s.full in
        let full : length run₁ ≡ saved_bytes = g.run_length ∙ s.full in
        record {
          full = full;
          bytes_are = x.2 ∙ ap (λ (y : After). encoded (run_in y)) same_grant;
          read_as = sym (restored_is run₁ full) ∙ (g.read_back s.full).1 ∙ ap run_in same_grant;
          words_are = x.1 ∙ ap reading_in same_grant;
        }

    -- its number, and the count that it writes
    own_counts : (n : ℕ) → answer_in (call table frame k (own steps)) ≡ GrantAnswer.Taken n → (number ≡ 0) × (taken₁ ≡ set taken 0 n)
    own_counts n a =
        let e : answer_in (granted table frame reading run steps) ≡ GrantAnswer.Taken n = ap answer_in same_grant ∙ a in
        let x = g.saved s.full in
        (x.0 ∙ ap number_of e, x.3 ∙ ap (λ (y : GrantAnswer). set taken 0 (taken_of y)) e)

  -- a call handed others, refused
  module _ (run reading t f : List ℕ) (r b : Option (List ℕ)) (reading₁ run₁ taken taken₁ : List ℕ) (steps number : ℕ) (g : Grants t f (handed reading r) reading₁ (handed run b) run₁ taken taken₁ steps number × (number ≡ 0 → ⊥)) where
    other_leaves : (run₁ ≡ handed run b) × (reading₁ ≡ handed reading r) × (taken₁ ≡ set taken 0 0)
    other_leaves = (grant_leaves t f (handed reading r) reading₁ (handed run b) run₁ taken taken₁ steps number g.0).refused g.1

    after_other : (k : Kept) → Same run reading k → Same (left run b run₁) (left reading r reading₁) k
    after_other k s =
        subst (λ (x : List ℕ). Same x (left reading r reading₁) k) (sym (left_same run b run₁ other_leaves.0))
        (subst (λ (x : List ℕ). Same run x k) (sym (left_same reading r reading₁ other_leaves.1)) s)

  -- all calls: what they leave, and their answers
  leaves : {run reading run' reading' : List ℕ} {gs : List Grant} → Kiosk table frame run reading gs run' reading' → (k : Kept) → Same run reading k → Same run' reading' (after_grants table frame gs k)
  unfolding after_grants
  leaves no_call k s = s
  leaves {run} {reading} (own_call reading₁ run₁ taken taken₁ steps number g cs) k s =
      leaves cs (next table frame k (own steps)) (after_own run reading reading₁ run₁ taken taken₁ steps number k s g)
  leaves {run} {reading} (other_call t f r b reading₁ run₁ taken taken₁ steps number g cs) k s =
      leaves cs k (after_other run reading t f r b reading₁ run₁ taken taken₁ steps number g k s)

  counts : (needed before : ℕ) {run reading run' reading' : List ℕ} {gs : List Grant} (cs : Kiosk table frame run reading gs run' reading') (k : Kept) → Same run reading k
      → GrantsCount table frame needed before gs k → EachCounts needed before run reading cs
  unfolding EachCounts GrantsCount
  counts needed before no_call k s q = tt
  counts needed before {run} {reading} (own_call reading₁ run₁ taken taken₁ steps number g cs) k s q =
      let c = own_counts run reading reading₁ run₁ taken taken₁ steps number k s g (min steps (needed - before)) q.0 in
      (c.0, c.1, counts needed (before + steps) cs (next table frame k (own steps)) (after_own run reading reading₁ run₁ taken taken₁ steps number k s g) q.1)
  counts needed before {run} {reading} (other_call t f r b reading₁ run₁ taken taken₁ steps number g cs) k s q =
      let u = other_leaves run reading t f r b reading₁ run₁ taken taken₁ steps number g in
      (u.2, u.0, u.1, counts needed before cs k (after_other run reading t f r b reading₁ run₁ taken taken₁ steps number g k s) q)

-- ---- condition 3

kept_parts : (k : Kept) → kept (run_kept k) (reading_kept k) ≡ k
kept_parts (kept run rs) = refl

pub calls_3 : Calls3
calls_3 text old left answer answer' a table copy frame reading room run o =
    let w = weighed text old left answer answer' a in
    let x = text_table text old left w.weight w.answers in
    let has = copied text old left answer answer' a table copy in
    let z = zero_is table frame reading room run 0 o refl in
    let opened : Opened table frame reading = subst (Answered table frame reading) z.0 o.answered in
    let claim = condition_3 text table w.weight has x.tree frame reading opened in
    let first : Same run reading (start reading) = record {
      full = o.run_length ∙ z.1;
      bytes_are = o.run_is ∙ ap₂ (λ (s : Bool) (y : Answer). cond s (encoded (run_given y)) room) (eq-eqb (length room) saved_bytes z.1) z.0;
      read_as = sym (restored_is run (o.run_length ∙ z.1)) ∙ o.read_back z.1 ∙ ap run_given z.0;
      words_are = refl;
    } in
    record {
      weight = w.weight;
      weight_told = w.told_so;
      tree = x.tree;
      one_derivation = at_most_one text old left w.weight w.answers x.tree;
      in_time = claim.within_bound;
      meant = λ gs run' reading' cs.
          let others = owns_refuse table frame cs (start reading) in
          let s = leaves table frame cs (start reading) first in
          let read : restored run' ≡ run_kept (here table frame reading gs) = restored_is run' s.full ∙ s.read_as in
          subst₂ (λ (r : Run) (zs : List ℕ). Seeing x.tree.tree claim.needed frame reading (steps-granted gs) (seen_of r zs)) (sym read) (sym s.words_are)
          (seeing x.tree.tree claim.needed table frame reading gs (claim.granting gs others) (claim.by_steps gs others)
          (condition_2.matching text table w.weight has x.tree frame reading opened gs others) x.windows);
      weighs = (x.weighable.0, x.weighable.1, x.weights x.weighable.0 x.weighable.1);
      claim = claim;
      calls = λ gs run' reading' cs.
          let others = owns_refuse table frame cs (start reading) in
          let g = claim.granting gs others in
          let s = leaves table frame cs (start reading) first in
          let read : restored run' ≡ run_kept (here table frame reading gs) = restored_is run' s.full ∙ s.read_as in
          record {
            run_is = s.bytes_are;
            read_back = read;
            reading_is = s.words_are;
            granted = g;
            unbroken = claim.unbroken gs others;
            answers = counts table frame claim.needed 0 cs (start reading) first g.answers;
            decided_iff = subst (λ (r : Run). Decided r ↔ (claim.needed ≤ steps-granted gs)) (sym read) g.decided_iff;
            exact = subst (Exact (local_grammar x.tree.tree) frame reading) (sym (ap₂ kept read s.words_are ∙ kept_parts (here table frame reading gs)))
                (condition_2.matching text table w.weight has x.tree frame reading opened gs others);
          };
    }
