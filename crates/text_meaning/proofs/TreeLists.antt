-- A list of terms that is the list of a tree means what the tree means, wherever no size passes 2^62.
-- Assumes nothing.
use Prim.Native.Nat.{ℕ, ◌+◌, ◌-◌, ◌<◌}
use mathlib.Core.Path.{◌≡◌, refl, sym, ap, ◌∙◌}
use mathlib.Core.Logic.{⊎_elim}
use mathlib.Core.Bool.{Bool, true, false, cond}
use mathlib.Core.List.{List, [], ◌∷◌, ◌++◌}
use mathlib.Core.Option.{none}
use native.Mathlib.Omega.{arith}
use lib.IntN.{ℤ}
use lib.ListN.{length, length-append}
use lib.Seq.{get_or-append-add}
use Rattle.basis.specs.Limits.{max_variables}
use Rattle.basis.specs.Counts.{Counts, zero_or_more}
use Rattle.basis.proofs.Booleans.{which}
use Rattle.term_words.specs.Words.{terms}
use Rattle.term_words.specs.declared.Kind.{Kind}
use Rattle.term_words.specs.declared.Mode.{Mode}
use Rattle.term_words.specs.declared.Term.{Term}
use Rattle.term_evaluation.specs.Meaning.{membership, condition}
use Rattle.term_evaluation.specs.Counts.{shown, form_of, tallied, counts}
use Rattle.term_evaluation.specs.Variables.{has_variable}
use Rattle.term_evaluation.proofs.Reading.{membership_constant, counts_constant}
use Rattle.term_sizes.specs.Sizes.{sizes, of_counted, count_sizes}
use Rattle.term_sizes.proofs.Forms.{list_passes, counts_passes}
use Rattle.term_trees.specs.Trees.{ValueSet, has, Condition, true_at, Repeats, exact, on_from, up_to_bound, spanning, repeats}
use Rattle.term_trees.specs.Postfix.{set_terms, condition_terms, repeat_terms, last_sign, before, calculation_terms}
use Rattle.term_trees.specs.Rooms.{SetRoom, ConditionRoom}
use Rattle.term_trees.proofs.Theorems.{answer, set_means, condition_means, set_formed, condition_formed}
use Rattle.term_trees.proofs.Repeating.{counts_mean}
use Rattle.table_layout.specs.Held
use Rattle.table_layout.specs.Held.{Values, is_yes, is_exact}
use Rattle.text_shapes.specs.TermShapes.{RepeatsRoom}
use Rattle.table_wellformed.specs.Lists.{formed}
use Rattle.text_wellformed.proofs.CountsFormed.{counts_formed}
use Rattle.text_meaning.specs.Meaning.{last_of, counted, counts_in, static_counts, in_set, in_static_set}
use Rattle.text_meaning.specs.Claims.{ListFits, CountsFit, is_exact_count}
use Rattle.text_meaning.proofs.TermLists.{counts_as}
use Rattle.std.specs.Prelude.{Result, Ok, Err, ⊤}
use Rattle.term_words.specs.declared.TermError.{TermError}
use Rattle.term_evaluation.specs.declared.Allowed.{Allowed}
use Rattle.term_sizes.specs.declared.SizeError.{SizeError}

-- ---- answers

answered : (b : Bool) → is_yes (answer b) ≡ b
answered true = refl
answered false = refl

allowed_shown : (c : Counts) → Held.allowed (shown c) ≡ c
allowed_shown Counts.none = refl
allowed_shown (Counts.from low) = refl
allowed_shown (Counts.within low more) = refl

-- what is neither malformed nor too large passes
passes : (kind : Kind) (list : List Term) (v : Values) (f : ListFits kind list v) → ((w : List ℤ) → length w ≡ max_variables → sizes kind w 0 list ≡ Err SizeError.Malformed → ⊥) → sizes kind f.widest 0 list ≡ Ok tt
passes kind list v f formed = list_passes v f.widest f.inside kind 0 list (formed v (f.inside.same ∙ f.many)) f.small

-- ---- a set, and a condition: `tree` is the tree, `small` the same with the variables cut at 63

module _ (list : List Term) (tree small : ValueSet) (is : list ≡ set_terms tree) (cut : list ≡ set_terms small) (room : SetRoom max_variables small 0) where
  pub set_has : (v : Values) → ListFits Kind.Set list v → (n : ℤ) → in_set list v n ≡ has v tree n
  set_has v f n =
      let p : sizes Kind.Set f.widest 0 list ≡ (Ok tt) =
      passes Kind.Set list v f (λ w l z. set_formed w 0 small (rw l room) (sym (ap (sizes Kind.Set w 0) cut) ∙ z)) in
      ap is_yes (ap (membership v n 0) is ∙ set_means v f.widest f.inside tree n 0 (sym (ap (sizes Kind.Set f.widest 0) is) ∙ p)) ∙ answered (has v tree n)

  pub set_first : (v : Values) → ListFits Kind.Set list v → (n : ℤ) → in_static_set list n ≡ cond (has_variable list) true (has v tree n)
  set_first v f n =
      ⊎_elim (λ (e : has_variable list ≡ true). rw e refl) (λ (e : has_variable list ≡ false). rw e (ap is_yes (membership_constant [] v n 0 list e) ∙ set_has v f n)) (which (has_variable list))

pub condition_has : (list : List Term) (tree small : Condition) → list ≡ condition_terms tree → list ≡ condition_terms small → ConditionRoom max_variables small 0 → (v : Values) → ListFits Kind.Condition list v → is_yes (condition v 0 list) ≡ true_at v tree
condition_has list tree small is cut room v f =
    let p : sizes Kind.Condition f.widest 0 list ≡ (Ok tt) =
    passes Kind.Condition list v f (λ w l z. condition_formed w 0 small (rw l room) (sym (ap (sizes Kind.Condition w 0) cut) ∙ z)) in
    ap is_yes (ap (condition v 0) is ∙ condition_means v f.widest f.inside tree 0 (sym (ap (sizes Kind.Condition f.widest 0) is) ∙ p)) ∙ answered (true_at v tree)

-- ---- counts: the table has the list, so that the laws over words serve

pub overflow_of : (c : Result Allowed TermError) (a at : ℕ) → of_counted c a ≡ Err (SizeError.Exceeds at) → c ≡ Err TermError.Overflow
overflow_of (Ok Allowed.None) a at z = let w : ◌≡◌ {A = ℕ} 0 1 = cc in absurd (omega arith)
overflow_of (Ok (Allowed.From low)) a at z = let w : ◌≡◌ {A = ℕ} 0 1 = cc in absurd (omega arith)
overflow_of (Ok (Allowed.Within low more)) a at z = let w : ◌≡◌ {A = ℕ} 0 1 = cc in absurd (omega arith)
overflow_of (Err TermError.Malformed) a at z = let w : ◌≡◌ {A = ℕ} 0 1 = cc in absurd (omega arith)
overflow_of (Err TermError.Overflow) a at z = refl

not_malformed : (x : Result ⊤ SizeError) → formed x ≡ true → x ≡ Err SizeError.Malformed → ⊥
not_malformed x e z = let w : false ≡ true = sym (ap formed z) ∙ e in let y : ◌≡◌ {A = ℕ} 0 1 = cc in omega arith

last_end : (list : List Term) (x : Term) → last_of (list ++ (x ∷ [])) ≡ x
last_end list x =
    let z : length (list ++ (x ∷ [])) - 1 ≡ length list + 0 = omega (arith, length-append list (x ∷ [])) in
    rw z (get_or-append-add list (x ∷ []) 0 Term.Bad)

pub form_is : (x : Repeats) → is_exact (form_of (last_of (repeat_terms x))) ≡ is_exact_count x
unfolding repeat_terms
form_is (exact c) = ap (λ (y : Term). is_exact (form_of y)) (last_end (before c) (Term.Part (last_sign c)))
form_is (on_from a) = ap (λ (y : Term). is_exact (form_of y)) (last_end (calculation_terms a) Term.From)
form_is (up_to_bound b) = ap (λ (y : Term). is_exact (form_of y)) (last_end (calculation_terms b) Term.UpTo)
form_is (spanning a b) = ap (λ (y : Term). is_exact (form_of y)) (last_end (calculation_terms a ++ calculation_terms b) Term.Range)

module _ (ws : List ℕ) (s e : ℕ) (some_terms : s < e) (list : List Term) (there : terms ws s e ≡ list) (tree small : Repeats) (is : list ≡ repeat_terms tree) (cut : list ≡ repeat_terms small) (room : RepeatsRoom max_variables small) where
  counts_pass : (v : Values) (f : CountsFit list v) → count_sizes f.widest ws s e ≡ Ok tt
  unfolding count_sizes
  counts_pass v f =
      let l : length v ≡ max_variables = f.inside.same ∙ f.many in
      counts_passes v f.widest f.inside ws s e (not_malformed (count_sizes v ws s e) (counts_formed v ws s e small (rw l room) (there ∙ cut)))
      (λ at z.
      let o : (tallied Mode.Sizes f.widest ws s e).counted ≡ (Err TermError.Overflow) = overflow_of (tallied Mode.Sizes f.widest ws s e).counted (tallied Mode.Sizes f.widest ws s e).at at z in
      f.small (counted Mode.Sizes f.widest list).at
      (ap (λ (c : Result Allowed TermError). of_counted c (counted Mode.Sizes f.widest list).at) (sym (counts_as ws s e some_terms Mode.Sizes f.widest list there) ∙ o)))

  pub counts_has : (v : Values) → CountsFit list v → counts_in list v ≡ repeats v tree
  unfolding counts
  counts_has v f =
      ap Held.allowed (sym (counts_as ws s e some_terms Mode.Values v list there) ∙ counts_mean v f.widest f.inside ws s e (counts_pass v f) tree (there ∙ is))
      ∙ allowed_shown (repeats v tree)

  pub counts_first : (v : Values) → CountsFit list v → static_counts list ≡ cond (has_variable list) zero_or_more (repeats v tree)
  unfolding counts
  counts_first v f =
      ⊎_elim (λ (z : has_variable list ≡ true). rw z refl)
      (λ (z : has_variable list ≡ false).
      let same : counts [] ws s e ≡ counts v ws s e = counts_constant [] v ws s e (ap has_variable there ∙ z) in
      rw z
      (ap Held.allowed (sym (counts_as ws s e some_terms Mode.Values [] list there) ∙ same ∙ counts_as ws s e some_terms Mode.Values v list there)
      ∙ counts_has v f))
      (which (has_variable list))
