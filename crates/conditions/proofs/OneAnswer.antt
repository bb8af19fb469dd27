-- Two answers to one text are the same, and leave the same table; with the same words before, the same words.
-- Assumes nothing.
use Prim.Native.Nat.{ℕ, zero, suc, ◌≤◌, ◌<◌}
use mathlib.Core.Path.{◌≡◌, refl, sym, ap, ap₂, subst, ◌∙◌}
use mathlib.Core.Logic.{◌⊎◌, ◌↔◌, inl, inr}
use mathlib.Core.List.{List, [], ◌++◌}
use native.Mathlib.Omega.{arith}
use lib.ListN.{length, drop, length-take, take-append-drop}
use Rattle.theory.specs.Grammar.{alternative, concatenation, repetition, switch, use_of, field, eod}
use Rattle.theory.specs.Lookahead.{Predicted}
use Rattle.table_layout.specs.Places.{table_words, table_of}
use Rattle.table_layout.specs.Held.{HeldNode, held}
use Rattle.table_conflicts.specs.Conflicts.{FirstHolders, Conflicting, LeastWindow, FirstTwo, Answered}
use Rattle.table_conflicts.specs.declared.Clash.{Clash}
use Rattle.table_judge.specs.Judged.{Least}
use Rattle.table_first_follow.specs.Rules.{Family}
use Rattle.table_weights.proofs.Heights.{weight_at}
use Rattle.table_hypotheses.specs.OneTable.{Alike}
use Rattle.table_hypotheses.proofs.SameSets.{alike_equal}
use Rattle.text_store.specs.Store.{State}
use Rattle.text_header.specs.Header.{header_of}
use Rattle.text_admission.specs.Admitted.{form, words_of, Passes, Tabled, RulesPass, Headed, Clashes, Answers, refused_early, by_rules}
use Rattle.text_admission.specs.Answers.{place_in, number_of}
use Rattle.text_admission.specs.declared.Admission.{Admission}
use Rattle.admission.specs.Refusals.{Row, short_table, wrong_size, wrong_header, wrong_form, past_limit, wrong_name, recursive, too_large, empty_body, clashing, too_heavy, unreached, no_value, number, Fits, NoneBelow}
use Rattle.conditions.specs.Conditions.{OneAnswer, OneTable}
use Rattle.text_parsing.specs.Form.{Outcome, right, refused}
use Rattle.admission.proofs.Rows.{one_base, least_same}
use Rattle.admission.proofs.Late.{weights_of}
use Rattle.admission.proofs.Numbers.{text_answered, refused_number}
use Rattle.admission.proofs.Exactly.{told, exactly}

-- ---- what is read is one

abbrev state_in : State → Outcome → State
state_in d (right st) = st
state_in d (refused p) = d

one_state : (o : Outcome) (st st' : State) → o ≡ right st → o ≡ right st' → st ≡ st'
one_state o st st' e e' = ap (state_in st) (sym e ∙ e')

-- ---- the same number, and the same place where it is a refusal

-- the same rows fit with these words as table and with those
abbrev SameRows : (text old old' : List ℕ) → Type 0
SameRows text old old' = (k : Row) (p : ℕ) → Fits text old k p ↔ Fits text old' k p

-- so they do of whole tables: only the first row reads of the table, its length
whole_rows : (text old old' : List ℕ) → table_words ≤ length old → table_words ≤ length old' → SameRows text old old'
whole_rows text old old' l l' short_table p = (λ f. absurd (omega (arith, l, f.0)), λ f. absurd (omega (arith, l', f.0)))
whole_rows text old old' l l' wrong_size p = (λ f. f, λ f. f)
whole_rows text old old' l l' wrong_header p = (λ f. f, λ f. f)
whole_rows text old old' l l' wrong_form p = (λ f. f, λ f. f)
whole_rows text old old' l l' past_limit p = (λ f. f, λ f. f)
whole_rows text old old' l l' wrong_name p = (λ f. f, λ f. f)
whole_rows text old old' l l' recursive p = (λ f. f, λ f. f)
whole_rows text old old' l l' too_large p = (λ f. f, λ f. f)
whole_rows text old old' l l' empty_body p = (λ f. f, λ f. f)
whole_rows text old old' l l' clashing p = (λ f. f, λ f. f)
whole_rows text old old' l l' too_heavy p = (λ f. f, λ f. f)
whole_rows text old old' l l' unreached p = (λ f. f, λ f. f)
whole_rows text old old' l l' no_value p = (λ f. f, λ f. f)

module _ (text old old' : List ℕ) (rows : SameRows text old old') where
  none_same : (n : ℕ) → NoneBelow text old n → NoneBelow text old' n
  none_same n none k q l f = none k q l ((rows k q).1 f)

  same_number : (new new' : List ℕ) (r r' : Admission) → Answers text old new r → Answers text old' new' r'
      → (number_of r ≡ number_of r') × ((number_of r ≡ 0 → ⊥) → place_in r ≡ place_in r')
  same_number new new' r r' a a' =
      elim (told text old new r a) [
        | inl x ↦ (x.0 ∙ sym ((exactly text old' new' r' a').admitted_iff.1 (none_same 14 x.1)), λ n. absurd (n x.0))
        | inr x ↦
            let e = ((exactly text old' new' r' a').refused_iff x.0 (place_in r)).1 ((rows x.0 (place_in r)).0 x.2.0, none_same (number x.0) x.2.1) in
            (sym x.1 ∙ sym e.0, λ n. sym e.1)
      ]

-- ---- one clash

abbrev branches_in : HeldNode → List ℕ
branches_in (alternative is) = is
branches_in (concatenation is) = []
branches_in (repetition counts static fixed b) = []
branches_in (switch chosen optional is) = []
branches_in (use_of enters opens closes b) = []
branches_in (field w admits static binds) = []
branches_in eod = []

-- the first two are one pair
first_same : (a b c d : ℕ) → a < b → c < d → (a ≡ c) ⊎ (d ≤ a) → (c ≡ a) ⊎ (b ≤ c) → a ≡ c
first_same a b c d l m (inl e) y = e
first_same a b c d l m (inr e) (inl f) = sym f
first_same a b c d l m (inr e) (inr f) = absurd (omega arith)

second_low : (a b d : ℕ) → a < b → (b ≡ a) ⊎ (d ≤ b) → d ≤ b
second_low a b d l (inl e) = absurd (omega arith)
second_low a b d l (inr e) = e

module _ (F : Family) (is : List ℕ) (n a b c d : ℕ) (x : FirstHolders F is n a b) (y : FirstHolders F is n c d) where
  one_first_holder : a ≡ c
  one_first_holder = first_same a b c d x.in_order y.in_order (y.others a x.first_listed x.first_has) (x.others c y.first_listed y.first_has)

  one_second_holder : b ≡ d
  one_second_holder =
      let e : a ≡ c = one_first_holder in
      let p : d ≤ b = second_low a b d x.in_order (subst (λ (k : ℕ). (b ≡ k) ⊎ (d ≤ b)) (sym e) (y.others b x.second_listed x.second_has)) in
      let q : b ≤ d = second_low c d b y.in_order (subst (λ (k : ℕ). (d ≡ k) ⊎ (b ≤ d)) e (x.others d y.second_listed y.second_has)) in
      omega arith

module _ (ws : List ℕ) (i : ℕ) where
  one_window : (n m : ℕ) → LeastWindow ws i n → LeastWindow ws i m → n ≡ m
  one_window n m (x, e, k) (y, f, l) = omega (arith, e, f, k.least y l.common, l.least x k.common)

  two_branches : (n m a b c d : ℕ) → n ≡ m → FirstTwo ws i n a b → FirstTwo ws i m c d → Clash.Branches n a b ≡ Clash.Branches m c d
  two_branches n m a b c d e x y =
      let l : x.branches ≡ y.branches = ap branches_in (sym x.node ∙ y.node) in
      let h : FirstHolders (Predicted (held ws)) y.branches m a b = subst (λ (k : ℕ). FirstHolders (Predicted (held ws)) y.branches k a b) e (subst (λ (is : List ℕ). FirstHolders (Predicted (held ws)) is n a b) l x.holders) in
      λ t. Clash.Branches (e t) (one_first_holder (Predicted (held ws)) y.branches m a b c d h y.holders t) (one_second_holder (Predicted (held ws)) y.branches m a b c d h y.holders t)

  one_clash : Conflicting ws i → (c d : Clash) → Answered ws i c → Answered ws i d → c ≡ d
  one_clash k Clash.None d x y = absurd (x k)
  one_clash k (Clash.Branches n a b) Clash.None x y = absurd (y k)
  one_clash k (Clash.Branches n a b) (Clash.Branches m c d) x y = two_branches n m a b c d (one_window n m x.0 y.0) x.1 y.1
  one_clash k (Clash.Branches n a b) (Clash.Passes m) x y = absurd (y.1 x.1.branches x.1.node)
  one_clash k (Clash.Passes n) Clash.None x y = absurd (y k)
  one_clash k (Clash.Passes n) (Clash.Branches m c d) x y = absurd (x.1 y.1.branches y.1.node)
  one_clash k (Clash.Passes n) (Clash.Passes m) x y = ap Clash.Passes (one_window n m x.0 y.0)

-- ---- one weight and one table

module _ (ws old old' new new' : List ℕ) (fits : table_words ≤ length old) (fits' : table_words ≤ length old') (x : Tabled ws old new) (y : Tabled ws old' new') where
  alike : Alike (table_of new) (table_of new')
  alike = record { long = x.same.long'; long' = y.same.long'; same = λ k l e. sym (x.same.same k l e) ∙ y.same.same k l e }

  whole : (was is : List ℕ) → table_words ≤ length was → length is ≡ length was → length (table_of is) ≡ table_words
  whole was is l e = length-take table_words is ∙ (let z : _ ≡ table_words = omega (arith, e, l) in z)

  tables_same : table_of new ≡ table_of new'
  tables_same = alike_equal alike x.sound y.sound (whole old new fits x.length_kept) (whole old' new' fits' y.length_kept)

one_weight : (xs : List ℕ) (st : State) (w v : ℕ) → Passes xs st w → Passes xs st v → w ≡ v
one_weight xs st w v x y =
    let ws : List ℕ = words_of xs st in sym (x.weighs (λ c i. weight_at ws i) (weights_of ws x.judged)) ∙ y.weighs (λ c i. weight_at ws i) (weights_of ws x.judged)

-- ---- one answer

-- what is read by rules
pub record ByRules (text old : List ℕ) (A : ℕ → Type 0) : Type 0 where
  pub base : ℕ
  pub headed : Headed text old base
  pub answered : A base

module _ (text old new : List ℕ) where
  of_admitted : (w : ℕ) → Answers text old new (Admission.Admitted w) → ByRules text old (λ base. RulesPass (drop base text) w old new)
  of_admitted w (refused_early n place e r k) = let z : ◌≡◌ {A = ℕ} 0 1 = cc in absurd (omega arith)
  of_admitted w (by_rules base h p) = record { base = base; headed = h; answered = p }

  of_conflict : (place i : ℕ) (c : Clash) → Answers text old new (Admission.Conflict place i c) → ByRules text old (λ base. Clashes (drop base text) base place i c)
  of_conflict place i c (refused_early n q e r k) = let z : ◌≡◌ {A = ℕ} 0 1 = cc in absurd (omega arith)
  of_conflict place i c (by_rules base h p) = record { base = base; headed = h; answered = p.0 }

  -- a refused text's table is as it was
  kept : (r : Admission) → Answers text old new r → (number_of r ≡ 0 → ⊥) → new ≡ old
  kept r a n = (text_answered text old new r a).refused n

-- two that are read by rules are so from the same place on
together : (text old old' : List ℕ) (A B : ℕ → Type 0) (C : Type 0) → ByRules text old A → ByRules text old' B → ((base : ℕ) → Headed text old base → Headed text old' base → A base → B base → C) → C
together text old old' A B C x y f =
    let e = one_base (header_of text) y.base x.base y.headed.header x.headed.header in
    f x.base x.headed (subst (Headed text old') e y.headed) x.answered (subst B e y.answered)

module _ (text old old' new new' : List ℕ) where
  both_admitted : (w v : ℕ) → Answers text old new (Admission.Admitted w) → Answers text old' new' (Admission.Admitted v) → (Admission.Admitted w ≡ Admission.Admitted v) × (table_of new ≡ table_of new')
  both_admitted w v a b =
      together text old old' (λ base. RulesPass (drop base text) w old new) (λ base. RulesPass (drop base text) v old' new') ((Admission.Admitted w ≡ Admission.Admitted v) × (table_of new ≡ table_of new'))
      (of_admitted text old new w a) (of_admitted text old' new' v b) same
    where
      same : (base : ℕ) → Headed text old base → Headed text old' base → RulesPass (drop base text) w old new → RulesPass (drop base text) v old' new'
          → (Admission.Admitted w ≡ Admission.Admitted v) × (table_of new ≡ table_of new')
      same base h h' x y =
          let xs : List ℕ = drop base text in
          let e : y.st ≡ x.st = one_state (form xs) y.st x.st y.passes.passed.passed.passed.passed.passed.formed x.passes.passed.passed.passed.passed.passed.formed in (
            ap Admission.Admitted (one_weight xs x.st w v x.passes (subst (λ (st : State). Passes xs st v) e y.passes)),
            tables_same (words_of xs x.st) old old' new new' h.table_fits h'.table_fits x.table (subst (λ (st : State). Tabled (words_of xs st) old' new') e y.table),
          )

  both_clash : (p q i j : ℕ) (c d : Clash) → p ≡ q → Answers text old new (Admission.Conflict p i c) → Answers text old' new' (Admission.Conflict q j d) → Admission.Conflict p i c ≡ Admission.Conflict q j d
  both_clash p q i j c d z a b =
      together text old old' (λ base. Clashes (drop base text) base p i c) (λ base. Clashes (drop base text) base q j d) (Admission.Conflict p i c ≡ Admission.Conflict q j d)
      (of_conflict text old new p i c a) (of_conflict text old' new' q j d b) same
    where
      same : (base : ℕ) → Headed text old base → Headed text old' base → Clashes (drop base text) base p i c → Clashes (drop base text) base q j d → Admission.Conflict p i c ≡ Admission.Conflict q j d
      same base h h' x y =
          let xs : List ℕ = drop base text in
          let ws : List ℕ = words_of xs x.st in
          let e : y.st ≡ x.st = one_state (form xs) y.st x.st y.passed.passed.passed.passed.passed.formed x.passed.passed.passed.passed.passed.formed in
          let l : Least ws (Conflicting ws) j = subst (λ (st : State). Least (words_of xs st) (Conflicting (words_of xs st)) j) e y.first in
          let m : Answered ws j d = subst (λ (st : State). Answered (words_of xs st) j d) e y.answered in
          let s : i ≡ j = least_same (Conflicting ws) i j x.first.holds l.holds x.first.before l.before in
          let k : c ≡ d = one_clash ws j l.holds c d (subst (λ (n : ℕ). Answered ws n c) s x.answered) m in
          λ t. Admission.Conflict (z t) (s t) (k t)

  -- the same answer, and where it admits the same table
  abbrev Same : Admission → Admission → Type 0
  Same r r' = (r ≡ r') × (number_of r ≡ 0 → table_of new ≡ table_of new')

  one : SameRows text old old' → (r r' : Admission) → Answers text old new r → Answers text old' new' r' → Same r r'
  one rows r r' a a' = by r r' a a' (same_number text old old' rows new new' r r' a a')
    where
      by : (r r' : Admission) → Answers text old new r → Answers text old' new' r' → (number_of r ≡ number_of r') × ((number_of r ≡ 0 → ⊥) → place_in r ≡ place_in r') → Same r r'
      by (Admission.Admitted w) (Admission.Admitted v) a b e = let x = both_admitted w v a b in (x.0, λ z. x.1)
      by (Admission.Admitted w) (Admission.Refused n q) a b e = absurd (omega (arith, e.0, (refused_number text old' new' n q b).0))
      by (Admission.Admitted w) (Admission.Conflict q j d) a b e = absurd (omega (arith, e.0))
      by (Admission.Refused m p) (Admission.Admitted v) a b e = absurd (omega (arith, e.0, (refused_number text old new m p a).0))
      by (Admission.Refused m p) (Admission.Refused n q) a b e =
          let x : 1 ≤ m = (refused_number text old new m p a).0 in
          (ap₂ Admission.Refused e.0 (e.1 (λ z. omega (arith, x, z))), λ z. absurd (omega (arith, x, z)))
      by (Admission.Refused m p) (Admission.Conflict q j d) a b e = absurd ((refused_number text old new m p a).2 e.0)
      by (Admission.Conflict p i c) (Admission.Admitted v) a b e = absurd (omega (arith, e.0))
      by (Admission.Conflict p i c) (Admission.Refused n q) a b e = absurd ((refused_number text old' new' n q b).2 (sym e.0))
      by (Admission.Conflict p i c) (Admission.Conflict q j d) a b e = (both_clash p q i j c d (e.1 (λ z. omega (arith, z))) a b, λ z. absurd (omega (arith, z)))

pub one_table : OneTable
one_table text old old' new new' r r' l l' a a' = one text old old' new new' (whole_rows text old old' l l') r r' a.answers a'.answers

pub one_answer : OneAnswer
one_answer text old new new' r r' a a' =
    let x = one text old old new new' (λ k p. (λ f. f, λ f. f)) r r' a.answers a'.answers in
    (x.0, by (number_of r) refl x.1 (ap number_of x.0))
  where
    by : (n : ℕ) → number_of r ≡ n → (number_of r ≡ 0 → table_of new ≡ table_of new') → number_of r ≡ number_of r' → new ≡ new'
    by zero e t s =
        sym (take-append-drop table_words new)
        ∙ (ap₂ ◌++◌ (t e) (a.leaves.beyond ∙ sym a'.leaves.beyond) ∙ take-append-drop table_words new')
    by (suc n) e t s = a.leaves.refused (λ z. omega (arith, e, z)) ∙ sym (a'.leaves.refused (λ z. omega (arith, e, s, z)))
