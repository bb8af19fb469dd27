-- The values that a run has of a rule's variables are within their widths: 0 before a binding, and then the values of a field's bits.
-- Assumes nothing.
use Prim.Native.Nat.{ℕ, zero, suc, ◌+◌, ◌*◌, ◌-◌, ◌^◌, ◌≤◌, ◌<◌}
use mathlib.Core.Path.{◌≡◌, refl, sym, ap, subst, ◌∙◌}
use mathlib.Core.Logic.{inl, inr, ⊎_elim}
use mathlib.Core.Bool.{Bool, true, false, cond}
use mathlib.Core.List.{List, [], ◌∷◌}
use native.Mathlib.Omega.{arith}
use native.Mathlib.Nat.{pow-succ'}
use borrow.Author.Tests.{eqb-true, eqb-false, ltb-true, ltb-false}
use lib.Dec.{eqb, ltb}
use lib.IntN.{ℤ, pos, nat_abs, sub_ℕ}
use lib.ListN.{length, get_or, set, replicate}
use lib.Seq.{get_or-set_other}
use Rattle.basis.specs.Bits.{Bits}
use Rattle.basis.specs.Patterns.{pattern_value, greatest_size, place}
use Rattle.basis.proofs.Values.{value_less}
use Rattle.basis.proofs.PatternLaws.{difference_not_below, difference_below, place_less, value_place}
use Rattle.basis.proofs.Booleans.{which, neither_first, neither_second, either_first, either_second}
use Rattle.text_header.proofs.Runs.{word_self}
use Rattle.text_tokens.specs.Names.{is_same}
use Rattle.tree.specs.Lexemes.{Name}
use Rattle.tree_meaning.specs.Pieces.{Piece, use_of_rule, width, formula, binding, bound_in}
use Rattle.tree_meaning.specs.Names.{is_among}
use Rattle.tree_meaning.specs.Sizes.{widest_in}
use Rattle.tree_meaning.specs.Grammar.{Values, variable_of}
use Rattle.tree_meaning.proofs.Passing.{NamesRight}
use Rattle.tree_meaning.proofs.Numbers.{one_name}
use Rattle.tree_meaning.proofs.Inside.{Held}

-- ---- each binder is the one of its name

-- of the pieces `whole`: the binders among these have their names' widths there
unfoldable pub Own : (whole : List Piece) → List Piece → Type 0
Own whole [] = Unit {0}
Own whole (use_of_rule x ∷ more) = Own whole more
Own whole (width most n ∷ more) = Own whole more
Own whole (formula f ∷ more) = Own whole more
Own whole (binding x signed n placed ∷ more) = (widest_in whole x.letters ≡ greatest_size signed n.value) × (is_among (bound_in whole) x ≡ true) × Own whole more

-- these are the rest of the whole, after binders of these names
own : (rules variables before : List Name) (whole ps : List Piece) → ((x : Name) → is_among before x ≡ false → widest_in whole x.letters ≡ widest_in ps x.letters)
    → ((x : Name) → is_among (bound_in ps) x ≡ true → is_among (bound_in whole) x ≡ true) → NamesRight rules variables before ps → Own whole ps
unfolding NamesRight Own bound_in is_among widest_in
own rules variables before whole [] a b h = tt
own rules variables before whole (use_of_rule x ∷ more) a b h = own rules variables before whole more a b h.2
own rules variables before whole (width most n ∷ more) a b h = own rules variables before whole more a b h
own rules variables before whole (formula f ∷ more) a b h = own rules variables before whole more a b h.1
own rules variables before whole (binding y signed n placed ∷ more) a b h = (
  a y h.0 ∙ ap (λ (t : Bool). cond t (greatest_size signed n.value) (widest_in more y.letters)) (word_self y.letters),
  b y (either_first (is_same y.letters y.letters) (is_among (bound_in more) y) (word_self y.letters)),
  own rules variables (y ∷ before) whole more
      (λ x e. a x (neither_second (is_same y.letters x.letters) (is_among before x) e) ∙ ap (λ (t : Bool). cond t (greatest_size signed n.value) (widest_in more x.letters)) (neither_first (is_same y.letters x.letters) (is_among before x) e))
      (λ x e. b x (either_second (is_same y.letters x.letters) (is_among (bound_in more) x) e)) h.2,
)

pub all_own : (rules variables : List Name) (ps : List Piece) → NamesRight rules variables [] ps → Own ps ps
all_own rules variables ps h = own rules variables [] ps ps (λ x e. refl) (λ x e. e) h

-- ---- before a binding

zeros : (n k : ℕ) → get_or (replicate n (pos 0)) k (pos 0) ≡ pos 0
zeros zero k = refl
zeros (suc n) zero = refl
zeros (suc n) (suc k) = zeros n k

pub first_held : (variable : List ℕ → ℕ) (n : ℕ) (ps : List Piece) → Held variable (replicate n (pos 0)) ps
unfolding Held
first_held variable n [] = tt
first_held variable n (use_of_rule x ∷ more) = first_held variable n more
first_held variable n (width most k ∷ more) = first_held variable n more
first_held variable n (formula f ∷ more) = first_held variable n more
first_held variable n (binding x signed k placed ∷ more) =
    (subst (λ (z : ℤ). nat_abs z ≤ greatest_size signed k.value) (sym (zeros n (variable x.letters))) (omega arith), first_held variable n more)

-- ---- a binding

-- whether there is such a place or not
set_there : (v : Values) (k m : ℕ) (a : ℤ) → nat_abs a ≤ m → nat_abs (get_or v k (pos 0)) ≤ m → nat_abs (get_or (set v k a) k (pos 0)) ≤ m
set_there [] k m a p q = q
set_there (x ∷ v) zero m a p q = p
set_there (x ∷ v) (suc k) m a p q = set_there v k m a p q

-- a value is no larger than the greatest of its width, in size
apart : (a m : ℕ) → a < m + m → nat_abs (sub_ℕ a m) ≤ m
apart a m h =
    elim (which (ltb a m)) [
      | inl t ↦ subst (λ (z : ℤ). nat_abs z ≤ m) (sym (difference_below a m (ltb-true a m t))) (let l = ltb-true a m t in omega arith)
      | inr t ↦ subst (λ (z : ℤ). nat_abs z ≤ m) (sym (difference_not_below a m (ltb-false a m t))) (omega arith)
    ]

pub value_within : (signed : Bool) (s : Bits) → nat_abs (pattern_value signed s) ≤ greatest_size signed (length s)
unfolding pattern_value
value_within false s = let l = value_less s in omega arith
value_within true [] = omega arith
value_within true (b ∷ s) =
    let l = place_less true (b ∷ s) in
    let d : 2 ^ suc (length s) ≡ 2 * 2 ^ length s = pow-succ' 2 (length s) in
    let w : suc (length s) - 1 ≡ length s = omega arith in
    subst (λ (k : ℕ). nat_abs (pattern_value true (b ∷ s)) ≤ 2 ^ k) (sym w) (subst (λ (z : ℤ). nat_abs z ≤ 2 ^ length s) (sym (value_place true (b ∷ s))) (apart (place true (b ∷ s)) (2 ^ length s) (omega (arith, l, d))))

-- variable x, of this width, takes the value of as many bits
module _ (b : ℕ) (whole : List Piece) (x : Name) (signed : Bool) (n : ℕ) (its : widest_in whole x.letters ≡ greatest_size signed n) (known : is_among (bound_in whole) x ≡ true) (bits : Bits) (as_wide : length bits ≡ n) where
  abbrev number : List ℕ → ℕ
  number = variable_of b (bound_in whole)

  abbrev after : Values → Values
  after v = set v (number x.letters) (pattern_value signed bits)

  small : nat_abs (pattern_value signed bits) ≤ greatest_size signed n
  small = subst (λ (k : ℕ). nat_abs (pattern_value signed bits) ≤ greatest_size signed k) as_wide (value_within signed bits)

  one_held : (v : Values) (y : Name) (m : ℕ) → widest_in whole y.letters ≡ m → is_among (bound_in whole) y ≡ true → nat_abs (get_or v (number y.letters) (pos 0)) ≤ m
      → nat_abs (get_or (after v) (number y.letters) (pos 0)) ≤ m
  one_held v y m e k h =
      ⊎_elim
      (λ t. let same = eqb-true (number y.letters) (number x.letters) t in
      let letters = one_name b (bound_in whole) y x k known same in
      let sizes : m ≡ greatest_size signed n = sym e ∙ (ap (widest_in whole) letters ∙ its) in
      subst (λ (i : ℕ). nat_abs (get_or (after v) i (pos 0)) ≤ m) (sym same) (set_there v (number x.letters) m (pattern_value signed bits) (omega (arith, small, sizes)) (subst (λ (i : ℕ). nat_abs (get_or v i (pos 0)) ≤ m) same h)))
      (λ t. subst (λ (z : ℤ). nat_abs z ≤ m) (sym (get_or-set_other v (number x.letters) (number y.letters) (pattern_value signed bits) (pos 0) (eqb-false (number y.letters) (number x.letters) t))) h)
      (which (eqb (number y.letters) (number x.letters)))

  pub stays_held : (v : Values) (ps : List Piece) → Own whole ps → Held number v ps → Held number (after v) ps
  unfolding Own Held
  stays_held v [] o h = tt
  stays_held v (use_of_rule y ∷ more) o h = stays_held v more o h
  stays_held v (width most k ∷ more) o h = stays_held v more o h
  stays_held v (formula f ∷ more) o h = stays_held v more o h
  stays_held v (binding y signed m placed ∷ more) o h = (one_held v y (greatest_size signed m.value) o.0 o.1 h.0, stays_held v more o.2 h.1)
