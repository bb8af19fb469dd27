-- Laws of 12: names that have the start rule's and, with a rule's, all that it uses have all that is reached; and where each rule is reached, none is at fault.
-- Assumes nothing.
use Prim.Native.Nat.{ℕ, suc, ◌≤◌}
use mathlib.Core.Path.{◌≡◌, refl, sym, subst, ◌∙◌}
use mathlib.Core.Logic.{◌⊎◌, inl, inr, ⊎_elim}
use mathlib.Core.Bool.{Bool, true, false, not, ◌&&◌, ◌||◌, false≢true}
use mathlib.Core.List.{List, [], ◌∷◌, Memᴰ}
use native.Mathlib.Omega.{arith}
use Rattle.basis.proofs.Booleans.{both_first, both_second, either_cases, not_true}
use Rattle.tree.specs.Tree.{Rule, Rules, last_rule}
use Rattle.tree_meaning.specs.Pieces.{rules_of, rule_name, rule_pieces}
use Rattle.tree_meaning.specs.Reaching.{used_in, Uses, Reaches, directly, through, start_rule, Reached, UnreachedAt, Refusal12}

-- ---- names that are closed under uses

unfoldable pub all_in : (held : List ℕ → Bool) → List (List ℕ) → Bool
all_in held [] = true
all_in held (y ∷ more) = held y && all_in held more

-- a rule whose name is held uses held names only
unfoldable pub closed : (held : List ℕ → Bool) → List Rule → Bool
unfolding all_in
closed held [] = true
closed held (r ∷ more) = (not (held (rule_name r).letters) || all_in held (used_in (rule_pieces r))) && closed held more

module _ (held : List ℕ → Bool) where
  each_in : {y : List ℕ} {zs : List (List ℕ)} → Memᴰ y zs → all_in held zs ≡ true → held y ≡ true
  unfolding all_in
  each_in (Memᴰ.head {x} {xs} e) h = rw e (both_first (held x) (all_in held xs) h)
  each_in (Memᴰ.tail {x} {xs} m) h = each_in m (both_second (held x) (all_in held xs) h)

  -- the names that one rule uses
  here : (r : Rule) → (not (held (rule_name r).letters) || all_in held (used_in (rule_pieces r))) ≡ true → held (rule_name r).letters ≡ true → all_in held (used_in (rule_pieces r)) ≡ true
  here r e h =
      ⊎_elim (λ f. absurd (false≢true (sym (not_true _ f) ∙ h))) (λ f. f) (either_cases (not (held (rule_name r).letters)) (all_in held (used_in (rule_pieces r))) e)

  among : {r : Rule} {rs : List Rule} → Memᴰ r rs → closed held rs ≡ true → held (rule_name r).letters ≡ true → all_in held (used_in (rule_pieces r)) ≡ true
  unfolding closed
  among {r} (Memᴰ.head {x} {xs} e) h =
      here r (subst (λ (q : Rule). (not (held (rule_name q).letters) || all_in held (used_in (rule_pieces q))) ≡ true) (sym e) (both_first _ (closed held xs) h))
  among (Memᴰ.tail {x} {xs} m) h = among m (both_second (not (held (rule_name x).letters) || all_in held (used_in (rule_pieces x))) (closed held xs) h)

  module _ {t : Rules} (c : closed held (rules_of t) ≡ true) where
    use_held : {x y : List ℕ} → Uses t x y → held x ≡ true → held y ≡ true
    use_held {x} {y} u h = each_in u.used (among u.there c (subst (λ (z : List ℕ). held z ≡ true) (sym u.named) h))

    reach_held : {x y : List ℕ} → Reaches t x y → held x ≡ true → held y ≡ true
    reach_held (directly u) h = use_held u h
    reach_held (through u more) h = reach_held more (use_held u h)

    -- a name that is not held is not reached
    pub not_reached : held (rule_name (start_rule t)).letters ≡ true → (x : List ℕ) → held x ≡ false → Reached t x → ⊥
    not_reached h x f (inl e) = false≢true (sym f ∙ subst (λ (z : List ℕ). held z ≡ true) (sym e) h)
    not_reached h x f (inr r) = false≢true (sym f ∙ reach_held r h)

-- ---- which is the first

-- each of these rules is reached, or stands at p or after it
unfoldable pub ReachedBefore : (t : Rules) → ℕ → List Rule → Type 0
ReachedBefore t p [] = Unit {0}
ReachedBefore t p (r ∷ more) = (Reached t (rule_name r).letters ⊎ (p ≤ (rule_name r).start)) × ReachedBefore t p more

module _ (t : Rules) (p : ℕ) where
  at_rule : (r : Rule) → Reached t (rule_name r).letters ⊎ (p ≤ (rule_name r).start) → (Reached t (rule_name r).letters → ⊥) → p ≤ (rule_name r).start
  at_rule r (inl h) n = absurd (n h)
  at_rule r (inr h) n = h

  in_rules : {r : Rule} {rs : List Rule} → Memᴰ r rs → ReachedBefore t p rs → (Reached t (rule_name r).letters → ⊥) → p ≤ (rule_name r).start
  unfolding ReachedBefore
  in_rules {r} (Memᴰ.head {x} {xs} e) h n = at_rule r (subst (λ (q : Rule). Reached t (rule_name q).letters ⊎ (p ≤ (rule_name q).start)) (sym e) h.0) n
  in_rules (Memᴰ.tail m) h n = in_rules m h.1 n

  pub none_sooner : ReachedBefore t p (rules_of t) → (q : ℕ) → UnreachedAt t q → p ≤ q
  none_sooner h q u = subst (λ (n : ℕ). p ≤ n) u.place (in_rules u.there h u.unreached)

-- all are reached
pub none_unreached : (t : Rules) → ((p : ℕ) → ReachedBefore t p (rules_of t)) → (q : ℕ) → UnreachedAt t q → ⊥
none_unreached t h q u = let l : suc q ≤ q = none_sooner t (suc q) (h (suc q)) q u in absurd (omega arith)

pub one_rule_reached : (r : Rule) (q : ℕ) → UnreachedAt (last_rule r) q → ⊥
unfolding rules_of ReachedBefore
one_rule_reached r = none_unreached (last_rule r) (λ p. (inl (inl refl), tt))

pub unreached_at : (t : Rules) (r : Rule) → Memᴰ r (rules_of t) → (Reached t (rule_name r).letters → ⊥) → UnreachedAt t (rule_name r).start
unreached_at t r m n = record { unused = r; there = m; place = refl; unreached = n }
