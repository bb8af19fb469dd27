-- The rows that are stored of a calculation, a set, counts or a condition are the terms of its tree, once its variables have their numbers.
-- Assumes nothing.
use Prim.Native.Nat.{ℕ, ◌+◌, ◌*◌}
use mathlib.Core.Path.{◌≡◌, refl, sym, ap, ap₂, ◌∙◌, subst}
use mathlib.Core.Bool.{cond}
use mathlib.Core.List.{List, [], ◌∷◌, ◌++◌, map, append_assoc, append-nil}
use mathlib.Core.Option.{Option, none, some}
use native.Mathlib.Omega.{arith}
use Rattle.text_tokens.specs.Numbers.{capped}
use Rattle.term_words.specs.Words.{term_of}
use Rattle.term_words.specs.declared.Operation.{Operation}
use Rattle.term_words.specs.declared.Term.{Term}
use Rattle.term_trees.specs.Trees.{Calculation as TermCalculation, plus as added, minus as less_by, times as multiplied, ValueSet as TermSet, without, Condition as TermCondition, compare as compared}
use Rattle.term_trees.specs.Postfix.{last_sign, before, calculation_terms, set_terms, condition_terms, repeat_terms}
use Rattle.text_store.specs.Words.{is_use}
use Rattle.text_shapes.specs.TermShapes.{rename_term}
use Rattle.tree.specs.Tree.{Primary, number, variable, Operand, plain, opposite, Factors, no_factor, times, Product, product, Summands, no_summand, plus, minus, Calculation, sum, Item, everything, only, between, from, up_to_bound, SetPart, Choices, item, item_but_item, item_but_set, last_choice, or_choices, ValueSet, Counts, exactly, at_least_count, at_most, span, Comparison, equal, unequal, less, at_most_as, greater, at_least_as, TestPart, tests, test, conjuncts, disjuncts, Tests, compare, test_group, one_test, all_of, any_of, last_conjunct, and_conjuncts, last_disjunct, or_disjuncts, Condition}
use Rattle.tree_form.specs.Stored.{start_of_product, tag_of}
use Rattle.tree_meaning.specs.Pieces.{Term as TreeTerm, a_number, a_use, a_sign, primary_terms, operand_terms, factor_terms, product_terms, summand_terms, terms_of_calculation, Component, whole_number, joined_by, item_parts, set_parts, counts_parts, tests_parts, terms_of}
use Rattle.tree_terms.specs.Terms.{comparison_term, set_after, Before, alone, and_after, or_after, test_after, BeforePart, primary_tree, operand_tree, times_tree, product_tree, sum_tree, calculation_tree, item_tree, set_tree, counts_tree, tests_tree}
use Rattle.tree_store.proofs.Rows.{TermRow, a_term, marked, last_marked, primary_rows, operand_rows, factors_rows, product_rows, summands_rows, calculation_rows, item_rows, set_rows, counts_rows, tests_rows}

-- ---- lists

pub map_both : (f : TermRow → Term) (A B : List TermRow) → map f (A ++ B) ≡ map f A ++ map f B
map_both f [] B = refl
map_both f (r ∷ A) B = ap (λ (l : List Term). f r ∷ l) (map_both f A B)

last_end : (A : List TermRow) (r : TermRow) → last_marked (A ++ (r ∷ [])) ≡ A ++ (marked r ∷ [])
unfolding last_marked
last_end [] r = refl
last_end (q ∷ []) r = refl
last_end (q ∷ s ∷ A) r = ap (λ (l : List TermRow). q ∷ l) (last_end (s ∷ A) r)

module _ (g : ℕ → ℕ) (numbered : List ℕ → ℕ) where
  -- the term that a row is, its variable under the number that g gives for its place
  abbrev pub row_term : TermRow → Term
  row_term r = rename_term g (term_of r.tag (cond (is_use r.tag) r.place r.value) 0)

  abbrev pub rows_terms : List TermRow → List Term
  rows_terms A = map row_term A

  -- numbers are not capped, and g gives the numbers of the variables
  unfoldable pub Resolved : List TreeTerm → Type 0
  Resolved [] = Unit {0}
  Resolved (a_number n ∷ more) = (capped n.value ≡ n.value) × Resolved more
  Resolved (a_use x ∷ more) = (g x.start ≡ numbered x.letters) × Resolved more
  Resolved (a_sign s ∷ more) = Resolved more

  resolved_first : (l m : List TreeTerm) → Resolved (l ++ m) → Resolved l
  unfolding Resolved
  resolved_first [] m h = tt
  resolved_first (a_number n ∷ l) m h = (h.0, resolved_first l m h.1)
  resolved_first (a_use x ∷ l) m h = (h.0, resolved_first l m h.1)
  resolved_first (a_sign s ∷ l) m h = resolved_first l m h

  resolved_second : (l m : List TreeTerm) → Resolved (l ++ m) → Resolved m
  unfolding Resolved
  resolved_second [] m h = h
  resolved_second (a_number n ∷ l) m h = resolved_second l m h.1
  resolved_second (a_use x ∷ l) m h = resolved_second l m h.1
  resolved_second (a_sign s ∷ l) m h = resolved_second l m h

  -- ---- calculations

  -- rows of a calculation: those before the last, and the last, which may be marked
  record Rowed (A : List TermRow) (c : TermCalculation) : Type 0 where
    first : List TermRow
    last : TermRow
    are : A ≡ first ++ (last ∷ [])
    first_is : rows_terms first ≡ before c
    last_is : row_term last ≡ Term.Part (last_sign c)
    marked_is : row_term (marked last) ≡ Term.Single (last_sign c)

  whole : {A : List TermRow} {c : TermCalculation} → Rowed A c → rows_terms A ≡ calculation_terms c
  whole {A} {c} h = ap rows_terms h.are ∙ map_both row_term h.first (h.last ∷ []) ∙ ap₂ (λ (l : List Term) (y : Term). l ++ (y ∷ [])) h.first_is h.last_is

  single : {A : List TermRow} {c : TermCalculation} → Rowed A c → rows_terms (last_marked A) ≡ before c ++ (Term.Single (last_sign c) ∷ [])
  single {A} {c} h =
      ap (λ (l : List TermRow). rows_terms (last_marked l)) h.are
      ∙ ap rows_terms (last_end h.first h.last)
      ∙ map_both row_term h.first (marked h.last ∷ [])
      ∙ ap₂ (λ (l : List Term) (y : Term). l ++ (y ∷ [])) h.first_is h.marked_is

  -- a number's value has no second word
  one_word : (v w : ℕ) → v ≡ w → v + 4294967296 * 0 ≡ w
  one_word v w e = omega arith

  primary_rowed : (o : ℕ) (x : Primary) → Resolved (primary_terms x) → Rowed (primary_rows o x) (primary_tree numbered x)
  unfolding Resolved primary_rows before term_of
  primary_rowed o (number n) h =
      record {
        first = [];
        last = a_term 1 (capped n.value) n.start o;
        are = refl;
        first_is = refl;
        last_is = ap (λ (k : ℕ). Term.Part (Operation.Number k)) (one_word (capped n.value) n.value h.0);
        marked_is = ap (λ (k : ℕ). Term.Single (Operation.Number k)) (one_word (capped n.value) n.value h.0);
      }
  primary_rowed o (variable x) h =
      record {
        first = [];
        last = a_term 2 0 x.start o;
        are = refl;
        first_is = refl;
        last_is = ap (λ (k : ℕ). Term.Part (Operation.Variable k)) h.0;
        marked_is = ap (λ (k : ℕ). Term.Single (Operation.Variable k)) h.0;
      }

  operand_rowed : (o : ℕ) (x : Operand) → Resolved (operand_terms x) → Rowed (operand_rows o x) (operand_tree numbered x)
  unfolding Resolved operand_rows before term_of
  operand_rowed o (plain x) h = primary_rowed o x h
  operand_rowed o (opposite s x) h =
      record { first = primary_rows o x; last = a_term 6 0 s.start o; are = refl; first_is = whole (primary_rowed o x h); last_is = refl; marked_is = refl }

  -- two, and their sign
  two : {A B : List TermRow} {a b : TermCalculation} → Rowed A a → Rowed B b → rows_terms (A ++ B) ≡ calculation_terms a ++ calculation_terms b
  two {A} {B} p q = map_both row_term A B ∙ ap₂ (λ (l m : List Term). l ++ m) (whole p) (whole q)

  moved : (A X R : List TermRow) (s : TermRow) → (A ++ (X ++ (s ∷ []))) ++ R ≡ A ++ (X ++ (s ∷ R))
  moved A X R s = append_assoc A (X ++ (s ∷ [])) R ∙ ap (λ (l : List TermRow). A ++ l) (append_assoc X (s ∷ []) R)

  multiplied_rowed : (o : ℕ) (s : ℕ) {A B : List TermRow} {a b : TermCalculation} → Rowed A a → Rowed B b → Rowed (A ++ (B ++ (a_term 5 0 s o ∷ []))) (multiplied a b)
  unfolding before term_of
  multiplied_rowed o s {A} {B} p q =
      record { first = A ++ B; last = a_term 5 0 s o; are = sym (append_assoc A B (a_term 5 0 s o ∷ [])); first_is = two p q; last_is = refl; marked_is = refl }

  added_rowed : (o : ℕ) (s : ℕ) {A B : List TermRow} {a b : TermCalculation} → Rowed A a → Rowed B b → Rowed (A ++ (B ++ (a_term 3 0 s o ∷ []))) (added a b)
  unfolding before term_of
  added_rowed o s {A} {B} p q =
      record { first = A ++ B; last = a_term 3 0 s o; are = sym (append_assoc A B (a_term 3 0 s o ∷ [])); first_is = two p q; last_is = refl; marked_is = refl }

  less_rowed : (o : ℕ) (s : ℕ) {A B : List TermRow} {a b : TermCalculation} → Rowed A a → Rowed B b → Rowed (A ++ (B ++ (a_term 4 0 s o ∷ []))) (less_by a b)
  unfolding before term_of
  less_rowed o s {A} {B} p q =
      record { first = A ++ B; last = a_term 4 0 s o; are = sym (append_assoc A B (a_term 4 0 s o ∷ [])); first_is = two p q; last_is = refl; marked_is = refl }

  times_rowed : (o : ℕ) (a : TermCalculation) (A : List TermRow) (more : Factors) → Rowed A a → Resolved (factor_terms more) → Rowed (A ++ factors_rows o more) (times_tree numbered a more)
  unfolding Resolved factors_rows times_tree factor_terms
  times_rowed o a A no_factor p h = subst (λ (l : List TermRow). Rowed l a) (sym (append-nil A)) p
  times_rowed o a A (times s x more) p h =
      subst (λ (l : List TermRow). Rowed l (times_tree numbered (multiplied a (operand_tree numbered x)) more)) (moved A (operand_rows o x) (factors_rows o more) (a_term 5 0 s.start o))
      (times_rowed o (multiplied a (operand_tree numbered x)) (A ++ (operand_rows o x ++ (a_term 5 0 s.start o ∷ []))) more
      (multiplied_rowed o s.start p (operand_rowed o x (resolved_first (operand_terms x) (factor_terms more) h))) (resolved_second (operand_terms x) (factor_terms more) h))

  product_rowed : (o : ℕ) (x : Product) → Resolved (product_terms x) → Rowed (product_rows o x) (product_tree numbered x)
  unfolding product_rows
  product_rowed o (product x more) h =
      times_rowed o (operand_tree numbered x) (operand_rows o x) more (operand_rowed o x (resolved_first (operand_terms x) (factor_terms more) h)) (resolved_second (operand_terms x) (factor_terms more) h)

  sum_rowed : (o : ℕ) (a : TermCalculation) (A : List TermRow) (more : Summands) → Rowed A a → Resolved (summand_terms more) → Rowed (A ++ summands_rows o more) (sum_tree numbered a more)
  unfolding Resolved summands_rows sum_tree summand_terms
  sum_rowed o a A no_summand p h = subst (λ (l : List TermRow). Rowed l a) (sym (append-nil A)) p
  sum_rowed o a A (plus s x more) p h =
      subst (λ (l : List TermRow). Rowed l (sum_tree numbered (added a (product_tree numbered x)) more)) (moved A (product_rows o x) (summands_rows o more) (a_term 3 0 s.start o))
      (sum_rowed o (added a (product_tree numbered x)) (A ++ (product_rows o x ++ (a_term 3 0 s.start o ∷ []))) more
      (added_rowed o s.start p (product_rowed o x (resolved_first (product_terms x) (summand_terms more) h))) (resolved_second (product_terms x) (summand_terms more) h))
  sum_rowed o a A (minus s x more) p h =
      subst (λ (l : List TermRow). Rowed l (sum_tree numbered (less_by a (product_tree numbered x)) more)) (moved A (product_rows o x) (summands_rows o more) (a_term 4 0 s.start o))
      (sum_rowed o (less_by a (product_tree numbered x)) (A ++ (product_rows o x ++ (a_term 4 0 s.start o ∷ []))) more
      (less_rowed o s.start p (product_rowed o x (resolved_first (product_terms x) (summand_terms more) h))) (resolved_second (product_terms x) (summand_terms more) h))

  calculation_rowed : (c : Calculation) → Resolved (terms_of_calculation c) → Rowed (calculation_rows c) (calculation_tree numbered c)
  unfolding calculation_rows
  calculation_rowed (sum x more) h =
      sum_rowed (start_of_product x) (product_tree numbered x) (product_rows (start_of_product x) x) more (product_rowed (start_of_product x) x (resolved_first (product_terms x) (summand_terms more) h)) (resolved_second (product_terms x) (summand_terms more) h)

  pub calculation_listed : (c : Calculation) → Resolved (terms_of_calculation c) → rows_terms (calculation_rows c) ≡ calculation_terms (calculation_tree numbered c)
  calculation_listed c h = whole (calculation_rowed c h)

  -- ---- sets

  -- of each calculation among these
  unfoldable Each : List Component → Type 0
  Each [] = Unit {0}
  Each (whole_number c ∷ more) = Resolved (terms_of_calculation c) × Each more
  Each (joined_by s ∷ more) = Each more

  all_each : (f : List Component) → Resolved (terms_of f) → Each f
  unfolding Resolved Each terms_of
  all_each [] h = tt
  all_each (whole_number c ∷ more) h = (resolved_first (terms_of_calculation c) (terms_of more) h, all_each more (resolved_second (terms_of_calculation c) (terms_of more) h))
  all_each (joined_by s ∷ more) h = all_each more h

  each_first : (f k : List Component) → Each (f ++ k) → Each f
  unfolding Each
  each_first [] k h = tt
  each_first (whole_number c ∷ f) k h = (h.0, each_first f k h.1)
  each_first (joined_by s ∷ f) k h = each_first f k h

  each_second : (f k : List Component) → Each (f ++ k) → Each k
  unfolding Each
  each_second [] k h = h
  each_second (whole_number c ∷ f) k h = each_second f k h.1
  each_second (joined_by s ∷ f) k h = each_second f k h

  -- two lists and a sign
  signed : (A B : List TermRow) (s : TermRow) (l m : List Term) (y : Term) → rows_terms A ≡ l → rows_terms B ≡ m → row_term s ≡ y → rows_terms (A ++ (B ++ (s ∷ []))) ≡ (l ++ m) ++ (y ∷ [])
  signed A B s l m y p q e =
      map_both row_term A (B ++ (s ∷ []))
      ∙ ap (λ (k : List Term). rows_terms A ++ k) (map_both row_term B (s ∷ []))
      ∙ sym (append_assoc (rows_terms A) (rows_terms B) (row_term s ∷ []))
      ∙ (λ t. (p t ++ q t) ++ (e t ∷ []))

  -- one and a sign
  ended : (A : List TermRow) (s : TermRow) (l : List Term) (y : Term) → rows_terms A ≡ l → row_term s ≡ y → rows_terms (A ++ (s ∷ [])) ≡ l ++ (y ∷ [])
  ended A s l y p e = map_both row_term A (s ∷ []) ∙ (λ t. p t ++ (e t ∷ []))

  item_listed : (x : Item) → Each (item_parts x) → rows_terms (item_rows x) ≡ set_terms (item_tree numbered x)
  unfolding Each item_rows set_terms term_of
  item_listed (everything s) h = refl
  item_listed (only a) h = single (calculation_rowed a h.0)
  item_listed (between a s b) h = signed (calculation_rows a) (calculation_rows b) (a_term 8 0 s.start 0) _ _ Term.Range (calculation_listed a h.0) (calculation_listed b h.1.0) refl
  item_listed (from a s) h = ended (calculation_rows a) (a_term 9 0 s.start 0) _ Term.From (calculation_listed a h.0) refl
  item_listed (up_to_bound s b) h = ended (calculation_rows b) (a_term 10 0 s.start 0) _ Term.UpTo (calculation_listed b h.0) refl

  -- B are the rows of what stands before, J those of the sign that joins it
  abbrev Joined : List TermRow → List TermRow → Option TermSet → Type 0
  Joined B J none = (rows_terms B ≡ []) × (rows_terms J ≡ [])
  Joined B J (some y) = (rows_terms B ≡ set_terms y) × (rows_terms J ≡ Term.Or ∷ [])

  three : (B A J : List TermRow) (l : List Term) → rows_terms A ≡ l → rows_terms (B ++ (A ++ J)) ≡ rows_terms B ++ (l ++ rows_terms J)
  three B A J l e = map_both row_term B (A ++ J) ∙ ap (λ (k : List Term). rows_terms B ++ k) (map_both row_term A J ∙ ap (λ (k : List Term). k ++ rows_terms J) e)

  set_joined : (o : Option TermSet) (B A J : List TermRow) (z : TermSet) → Joined B J o → rows_terms A ≡ set_terms z → rows_terms (B ++ (A ++ J)) ≡ set_terms (set_after o z)
  unfolding set_terms
  set_joined none B A J z j e = three B A J (set_terms z) e ∙ (λ t. j.0 t ++ (set_terms z ++ j.1 t)) ∙ append-nil (set_terms z)
  set_joined (some y) B A J z j e = three B A J (set_terms z) e ∙ (λ t. j.0 t ++ (set_terms z ++ j.1 t)) ∙ sym (append_assoc (set_terms y) (set_terms z) (Term.Or ∷ []))

  but_listed : (s : ℕ) (A B : List TermRow) (y z : TermSet) → rows_terms A ≡ set_terms y → rows_terms B ≡ set_terms z → rows_terms (A ++ (B ++ (a_term 12 0 s 0 ∷ []))) ≡ set_terms (without y z)
  unfolding set_terms term_of
  but_listed s A B y z p q = signed A B (a_term 12 0 s 0) (set_terms y) (set_terms z) Term.Except p q refl

  -- a set with its sign behind it
  but_joined : (o : Option TermSet) (s : ℕ) (C A B J : List TermRow) (y z : TermSet) → Joined C J o → rows_terms A ≡ set_terms y → rows_terms B ≡ set_terms z
      → rows_terms (C ++ (A ++ (B ++ (a_term 12 0 s 0 ∷ J)))) ≡ set_terms (set_after o (without y z))
  but_joined o s C A B J y z j p q =
      ap (λ (l : List TermRow). rows_terms (C ++ l)) (sym (moved A B J (a_term 12 0 s 0))) ∙ set_joined o C (A ++ (B ++ (a_term 12 0 s 0 ∷ []))) J (without y z) j (but_listed s A B y z p q)

  set_rowed : {p : SetPart} {d : ℕ} (o : Option TermSet) (x : Choices p d) (B J : List TermRow) → Joined B J o → Each (set_parts x) → rows_terms (B ++ set_rows x J) ≡ set_terms (set_tree numbered o x)
  unfolding Each set_rows set_tree set_parts term_of
  set_rowed o (item a) B J j h = set_joined o B (item_rows a) J (item_tree numbered a) j (item_listed a h)
  set_rowed o (item_but_item a s b) B J j h =
      but_joined o s.start B (item_rows a) (item_rows b) J (item_tree numbered a) (item_tree numbered b) j (item_listed a (each_first (item_parts a) (joined_by s ∷ item_parts b) h)) (item_listed b (each_second (item_parts a) (joined_by s ∷ item_parts b) h))
  set_rowed o (item_but_set depth a s opens b closes) B J j h =
      but_joined o s.start B (item_rows a) (set_rows b []) J (item_tree numbered a) (set_tree numbered none b) j (item_listed a (each_first (item_parts a) (joined_by s ∷ set_parts b) h))
      (set_rowed none b [] [] (refl, refl) (each_second (item_parts a) (joined_by s ∷ set_parts b) h))
  set_rowed o (last_choice a) B J j h = set_rowed o a B J j h
  set_rowed o (or_choices a s b) B J j h =
      ap rows_terms (sym (append_assoc B (set_rows a J) (set_rows b (a_term 11 0 s.start 0 ∷ []))))
      ∙ set_rowed (some (set_tree numbered o a)) b (B ++ set_rows a J) (a_term 11 0 s.start 0 ∷ []) (set_rowed o a B J j (each_first (set_parts a) (joined_by s ∷ set_parts b) h), refl) (each_second (set_parts a) (joined_by s ∷ set_parts b) h)

  pub set_listed : {d : ℕ} (x : ValueSet d) → Resolved (terms_of (set_parts x)) → rows_terms (set_rows x []) ≡ set_terms (set_tree numbered none x)
  set_listed x h = set_rowed none x [] [] (refl, refl) (all_each (set_parts x) h)

  -- ---- counts

  counts_rowed : (x : Counts) → Each (counts_parts x) → rows_terms (counts_rows x) ≡ repeat_terms (counts_tree numbered x)
  unfolding Each counts_rows repeat_terms term_of
  counts_rowed (exactly n) h = calculation_listed n h.0
  counts_rowed (at_least_count a s) h = ended (calculation_rows a) (a_term 9 0 s.start 0) _ Term.From (calculation_listed a h.0) refl
  counts_rowed (at_most s b) h = ended (calculation_rows b) (a_term 10 0 s.start 0) _ Term.UpTo (calculation_listed b h.0) refl
  counts_rowed (span a s b) h = signed (calculation_rows a) (calculation_rows b) (a_term 8 0 s.start 0) _ _ Term.Range (calculation_listed a h.0) (calculation_listed b h.1.0) refl

  pub counts_listed : (x : Counts) → Resolved (terms_of (counts_parts x)) → rows_terms (counts_rows x) ≡ repeat_terms (counts_tree numbered x)
  counts_listed x h = counts_rowed x (all_each (counts_parts x) h)

  -- ---- conditions

  abbrev JoinedTest : List TermRow → List TermRow → Before → Type 0
  JoinedTest B J alone = (rows_terms B ≡ []) × (rows_terms J ≡ [])
  JoinedTest B J (and_after y) = (rows_terms B ≡ condition_terms y) × (rows_terms J ≡ Term.And ∷ [])
  JoinedTest B J (or_after y) = (rows_terms B ≡ condition_terms y) × (rows_terms J ≡ Term.Or ∷ [])

  unfoldable JoinedPart : List TermRow → List TermRow → (p : TestPart) → BeforePart p → Type 0
  JoinedPart B J tests o = (rows_terms B ≡ []) × (rows_terms J ≡ [])
  JoinedPart B J test o = JoinedTest B J o
  JoinedPart B J conjuncts o = (rows_terms B ≡ condition_terms o) × (rows_terms J ≡ Term.And ∷ [])
  JoinedPart B J disjuncts o = (rows_terms B ≡ condition_terms o) × (rows_terms J ≡ Term.Or ∷ [])

  test_joined : (o : Before) (B A J : List TermRow) (z : TermCondition) → JoinedTest B J o → rows_terms A ≡ condition_terms z → rows_terms (B ++ (A ++ J)) ≡ condition_terms (test_after o z)
  unfolding condition_terms
  test_joined alone B A J z j e = three B A J (condition_terms z) e ∙ (λ t. j.0 t ++ (condition_terms z ++ j.1 t)) ∙ append-nil (condition_terms z)
  test_joined (and_after y) B A J z j e = three B A J (condition_terms z) e ∙ (λ t. j.0 t ++ (condition_terms z ++ j.1 t)) ∙ sym (append_assoc (condition_terms y) (condition_terms z) (Term.And ∷ []))
  test_joined (or_after y) B A J z j e = three B A J (condition_terms z) e ∙ (λ t. j.0 t ++ (condition_terms z ++ j.1 t)) ∙ sym (append_assoc (condition_terms y) (condition_terms z) (Term.Or ∷ []))

  comparison_row : (c : Comparison) (s : ℕ) → row_term (a_term (tag_of c) 0 s 0) ≡ Term.Compare (comparison_term c)
  unfolding term_of
  comparison_row equal s = refl
  comparison_row unequal s = refl
  comparison_row less s = refl
  comparison_row at_most_as s = refl
  comparison_row greater s = refl
  comparison_row at_least_as s = refl

  compare_listed : (a : Calculation) (c : Comparison) (s : ℕ) (b : Calculation) → Resolved (terms_of_calculation a) → Resolved (terms_of_calculation b)
      → rows_terms (calculation_rows a ++ (calculation_rows b ++ (a_term (tag_of c) 0 s 0 ∷ []))) ≡ condition_terms (compared (comparison_term c) (calculation_tree numbered a) (calculation_tree numbered b))
  unfolding condition_terms
  compare_listed a c s b p q = signed (calculation_rows a) (calculation_rows b) (a_term (tag_of c) 0 s 0) _ _ (Term.Compare (comparison_term c)) (calculation_listed a p) (calculation_listed b q) (comparison_row c s)

  tests_rowed : {p : TestPart} {d : ℕ} (o : BeforePart p) (x : Tests p d) (B J : List TermRow) → JoinedPart B J p o → Each (tests_parts x) → rows_terms (B ++ tests_rows x J) ≡ condition_terms (tests_tree numbered o x)
  unfolding Each tests_rows tests_tree tests_parts term_of JoinedPart
  tests_rowed o (compare a c s b) B J j h =
      ap (λ (l : List TermRow). rows_terms (B ++ l)) (sym (moved (calculation_rows a) (calculation_rows b) J (a_term (tag_of c) 0 s.start 0)))
      ∙ test_joined o B (calculation_rows a ++ (calculation_rows b ++ (a_term (tag_of c) 0 s.start 0 ∷ []))) J (compared (comparison_term c) (calculation_tree numbered a) (calculation_tree numbered b)) j (compare_listed a c s.start b h.0 h.1.0)
  tests_rowed o (test_group depth opens a closes) B J j h = test_joined o B (tests_rows a []) J (tests_tree numbered tt a) j (tests_rowed tt a [] [] (refl, refl) h)
  tests_rowed o (one_test a) B J j h = tests_rowed alone a B J j h
  tests_rowed o (all_of a s b) B J j h =
      ap rows_terms (sym (append_assoc B (tests_rows a J) (tests_rows b (a_term 13 0 s.start 0 ∷ []))))
      ∙ tests_rowed (tests_tree numbered alone a) b (B ++ tests_rows a J) (a_term 13 0 s.start 0 ∷ []) (tests_rowed alone a B J j (each_first (tests_parts a) (joined_by s ∷ tests_parts b) h), refl) (each_second (tests_parts a) (joined_by s ∷ tests_parts b) h)
  tests_rowed o (any_of a s b) B J j h =
      ap rows_terms (sym (append_assoc B (tests_rows a J) (tests_rows b (a_term 11 0 s.start 0 ∷ []))))
      ∙ tests_rowed (tests_tree numbered alone a) b (B ++ tests_rows a J) (a_term 11 0 s.start 0 ∷ []) (tests_rowed alone a B J j (each_first (tests_parts a) (joined_by s ∷ tests_parts b) h), refl) (each_second (tests_parts a) (joined_by s ∷ tests_parts b) h)
  tests_rowed o (last_conjunct a) B J j h = tests_rowed (and_after o) a B J j h
  tests_rowed o (and_conjuncts a s b) B J j h =
      ap rows_terms (sym (append_assoc B (tests_rows a J) (tests_rows b (a_term 13 0 s.start 0 ∷ []))))
      ∙ tests_rowed (tests_tree numbered (and_after o) a) b (B ++ tests_rows a J) (a_term 13 0 s.start 0 ∷ []) (tests_rowed (and_after o) a B J j (each_first (tests_parts a) (joined_by s ∷ tests_parts b) h), refl) (each_second (tests_parts a) (joined_by s ∷ tests_parts b) h)
  tests_rowed o (last_disjunct a) B J j h = tests_rowed (or_after o) a B J j h
  tests_rowed o (or_disjuncts a s b) B J j h =
      ap rows_terms (sym (append_assoc B (tests_rows a J) (tests_rows b (a_term 11 0 s.start 0 ∷ []))))
      ∙ tests_rowed (tests_tree numbered (or_after o) a) b (B ++ tests_rows a J) (a_term 11 0 s.start 0 ∷ []) (tests_rowed (or_after o) a B J j (each_first (tests_parts a) (joined_by s ∷ tests_parts b) h), refl) (each_second (tests_parts a) (joined_by s ∷ tests_parts b) h)

  pub condition_listed : {d : ℕ} (x : Condition d) → Resolved (terms_of (tests_parts x)) → rows_terms (tests_rows x []) ≡ condition_terms (tests_tree numbered tt x)
  unfolding JoinedPart
  condition_listed x h = tests_rowed tt x [] [] (refl, refl) (all_each (tests_parts x) h)
