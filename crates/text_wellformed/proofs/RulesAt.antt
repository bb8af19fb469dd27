-- The rules' trees, and the rule that a node is in.
-- Assumes nothing.
use Prim.Native.Nat.{ℕ, zero, suc, ◌+◌, ◌-◌, ◌≤◌, ◌<◌}
use mathlib.Core.Path.{◌≡◌, refl, subst, ◌∙◌}
use mathlib.Core.Logic.{⊎_elim}
use mathlib.Core.List.{List}
use native.Mathlib.Omega.{arith}
use borrow.Author.Tests.{le-leb, lt-leb, ltb-true, ltb-false}
use lib.Dec.{ltb}
use Rattle.basis.proofs.Booleans.{which}
use Rattle.text_shapes.specs.NodeShapes.{NameAt, Unconditioned, tree, Holds, Rules, no_rules, a_rule}
use Rattle.text_shapes.proofs.Moving.{extent}
use Rattle.text_store.specs.Words.{named_at, first_node, last_node}
use Rattle.text_encoding.specs.Numbers.{first_at}
use Rattle.text_wellformed.proofs.Counting.{here_or_after}

-- rule k of r, that have n nodes
pub record RuleAt (xs ns ts rs : List ℕ) (r n k : ℕ) : Type 0 where
  pub terms_from : ℕ
  pub terms_to : ℕ
  pub count : ℕ
  pub name : NameAt xs (named_at rs k)
  pub free : Unconditioned ns (first_node rs k)
  pub holds : Holds xs ns ts tree (first_node rs k) (last_node rs k) terms_from terms_to count
  pub within : last_node rs k ≤ n
  pub next : k + 1 < r → first_node rs (k + 1) ≡ last_node rs k
  pub end : k + 1 ≡ r → last_node rs k ≡ n

-- the rule that node j is in
pub record Owner (rs : List ℕ) (r j : ℕ) : Type 0 where
  pub rule : ℕ
  pub below : rule < r
  pub from : first_node rs rule ≤ j
  pub to : j < last_node rs rule
  pub later : (k : ℕ) → rule < k → k < r → j < first_node rs k

first_hit : (k i : ℕ) (rs : List ℕ) → first_node rs k ≤ i → first_at rs (suc k) i ≡ first_node rs k
unfolding first_at
first_hit k i rs h = rw (le-leb (first_node rs k) i h, first_at)

first_miss : (k i : ℕ) (rs : List ℕ) → i < first_node rs k → first_at rs (suc k) i ≡ first_at rs k i
unfolding first_at
first_miss k i rs h = rw (lt-leb (first_node rs k) i h, first_at)

-- rule m of those is the last that begins at i or before
first_at_last : (d m q i : ℕ) (rs : List ℕ) → q ≡ suc (m + d) → first_node rs m ≤ i → ((k : ℕ) → m < k → k < q → i < first_node rs k) → first_at rs q i ≡ first_node rs m
first_at_last zero m q i rs z h later = let y : q ≡ suc m = omega arith in rw y (first_hit m i rs h)
first_at_last (suc d) m q i rs z h later =
    let y : q ≡ suc (suc (m + d)) = omega arith
    in rw y (first_miss (suc (m + d)) i rs (later (suc (m + d)) (omega arith) (omega arith)) ∙ first_at_last d m (suc (m + d)) i rs refl h (λ k a b. later k a (omega arith)))

pub first_at_owner : {rs : List ℕ} {r i : ℕ} (o : Owner rs r i) → first_at rs r i ≡ first_node rs o.rule
first_at_owner {rs} {r} {i} o =
    let l : o.rule < r = o.below
    in first_at_last (r - suc o.rule) o.rule r i rs (omega arith) o.from o.later

module _ {xs ns ts rs : List ℕ} {r n t b : ℕ} where
  rules_bound : {k i f u : ℕ} → Rules xs ns ts rs r n t b k i f u → (k ≤ r) × (i ≤ n)
  rules_bound (no_rules a b c d) = (omega arith, omega arith)
  rules_bound (a_rule name w e v free holds rest) = (omega (arith, (rules_bound rest).0), omega (arith, (extent holds).0, (rules_bound rest).1))

  pub begins : {k i f u : ℕ} → Rules xs ns ts rs r n t b k i f u → k < r → first_node rs k ≡ i
  begins (no_rules a b c d) h = absurd (omega arith)
  begins (a_rule name w e v free holds rest) h = w.first_is

  ends : {k i f u : ℕ} → Rules xs ns ts rs r n t b k i f u → k ≡ r → i ≡ n
  ends (no_rules a b c d) h = b
  ends (a_rule name w e v free holds rest) h = absurd (omega (arith, (rules_bound rest).0))

  after : {k i f u : ℕ} → Rules xs ns ts rs r n t b k i f u → (j : ℕ) → k ≤ j → j < r → i ≤ first_node rs j
  after (no_rules a b c d) j h l = absurd (omega arith)
  after (a_rule {k = k} {i = i} name w e v free holds rest) j h l =
      ⊎_elim (λ (z : k ≡ j). subst (λ (q : ℕ). i ≤ first_node rs q) z (omega (arith, w.first_is))) (λ (m : k + 1 ≤ j). omega (arith, (extent holds).0, after rest j (omega arith) l)) (here_or_after h)

  pub rule_at : {k i f u : ℕ} → Rules xs ns ts rs r n t b k i f u → (j : ℕ) → k ≤ j → j < r → RuleAt xs ns ts rs r n j
  rule_at (no_rules a b c d) j h l = absurd (omega arith)
  rule_at (a_rule {k = k} {l = q} {f = f} {h = g} {β = β} name w e v free holds rest) j h l =
      ⊎_elim
      (λ (z : k ≡ j).
      subst (RuleAt xs ns ts rs r n) z
      (record {
        terms_from = f;
        terms_to = g;
        count = β;
        name = name;
        free = rw w.first_is free;
        holds = rw (w.first_is, w.nodes_are) holds;
        within = omega (arith, w.nodes_are, (rules_bound rest).1);
        next = λ y. rw (← e, w.nodes_are) (begins rest (omega arith));
        end = λ y. w.nodes_are ∙ ends rest (e ∙ y);
      }))
      (λ (m : k + 1 ≤ j). rule_at rest j (omega arith) l) (here_or_after h)

  pub owner : {k i f u : ℕ} → Rules xs ns ts rs r n t b k i f u → (j : ℕ) → i ≤ j → j < n → Owner rs r j
  owner (no_rules a b c d) j h l = absurd (omega arith)
  owner (a_rule {k = k} {m = m} name w e v free holds rest) j h l =
      ⊎_elim
      (λ z.
      let y : j < m = ltb-true j m z
      in record {
        rule = k;
        below = omega (arith, (rules_bound rest).0);
        from = omega (arith, w.first_is);
        to = omega (arith, w.nodes_are);
        later = λ q a c. omega (arith, after rest q (omega arith) c);
      })
      (λ z. owner rest j (ltb-false j m z) l) (which (ltb j m))

  rule_later : {k i f u : ℕ} → Rules xs ns ts rs r n t b k i f u → (j q : ℕ) → k ≤ j → j < q → q < r → last_node rs j ≤ first_node rs q
  rule_later (no_rules a b c d) j q h l m = absurd (omega arith)
  rule_later (a_rule {k = k} name w e v free holds rest) j q h l m =
      ⊎_elim (λ (z : k ≡ j). subst (λ (p : ℕ). last_node rs p ≤ first_node rs q) z (omega (arith, w.nodes_are, after rest q (omega arith) m))) (λ (y : k + 1 ≤ j). rule_later rest j q (omega arith) l m) (here_or_after h)

  pub first_at_in : Rules xs ns ts rs r n t b 0 0 0 0 → (k i : ℕ) → k < r → first_node rs k ≤ i → i < last_node rs k → first_at rs r i ≡ first_node rs k
  first_at_in R k i h l m =
      let o : Owner rs r i = record { rule = k; below = h; from = l; to = m; later = λ q a c. omega (arith, rule_later R k q (omega arith) a c) } in first_at_owner o
