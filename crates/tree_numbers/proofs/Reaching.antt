-- Refusals 7 and 12: which rules of what is stored reach themselves or are not reached, by their numbers, and which rules of the tree, by their names.
-- Assumes nothing.
use Prim.Native.Nat.{ℕ, zero, suc, ◌+◌, ◌-◌, ◌≤◌, ◌<◌}
use mathlib.Core.Path.{◌≡◌, refl, sym, ap, subst, ◌∙◌}
use mathlib.Core.Logic.{inl, inr, ⊎_elim}
use mathlib.Core.Bool.{Bool, true, false}
use mathlib.Core.List.Memᴰ
use mathlib.Core.List.{List, [], ◌∷◌, Memᴰ}
use mathlib.Core.Option.{none}
use native.Mathlib.Omega.{arith}
use borrow.Author.Tests.{eqb-false}
use lib.ListN.{length}
use Rattle.basis.proofs.Booleans.{which}
use Rattle.text_header.proofs.Runs.{word_equal}
use Rattle.text_store.specs.Words.{kind_of, place_of, named_at, first_node, last_node}
use Rattle.text_encoding.specs.Lists.{first_of}
use Rattle.text_encoding.specs.Numbers.{rule_of}
use Rattle.tree.specs.Lexemes.{Name, finish}
use Rattle.tree.specs.Tree.{Rule, Rules, last_rule, and_rules}
use Rattle.tree_meaning.specs.Pieces.{Piece, rules_of as rules_in, rule_name, rule_body, rule_pieces}
use Rattle.tree_meaning.specs.Counted.{no_rule}
use Rattle.tree_meaning.specs.Names.{rule_names, refusal_6}
use Rattle.tree_meaning.specs.Reaching.{used_in, Uses, Reaches, directly, through, RecursiveAt, Refusal7, Acyclic, start_rule, Reached, UnreachedAt, Refusal12}
use Rattle.tree_meaning.proofs.Passing.{named}
use Rattle.tree_store.proofs.Rows.{NodeRow, node_rows}
use Rattle.tree_store.proofs.Holding.{compared}
use Rattle.tree_store.proofs.Standing.{Ascending, ascended, ascends, SpelledBy, spelled_stand, rules_ascend}
use Rattle.tree_store.proofs.Uses.{Here}
use Rattle.tree_store.proofs.Rowed.{NodesAt, no_nodes, node_then, Rowed}
use Rattle.tree_store.proofs.Names.{named_so, named_here}
use Rattle.tree_store.proofs.Steps.{InStep, no_step, a_formula, a_use, a_field, a_binder, another}
use Rattle.tree_numbers.proofs.Rules.{At, at_first, at_later, at_member, Numbered, member_at, at_below, RuleAt, rule_at, RuleFacts, rule_facts, NumberOf, number_of, first_here, first_later, among_at, distinct}

-- ---- over what is stored: node by node

-- some node of rule k is a use of rule q, of r rules
pub record StoredUses (xs ns ws : List ℕ) (r k q : ℕ) : Type 0 where
  pub at : ℕ
  pub rule : k < r
  pub from : first_node ws k ≤ at
  pub upto : at < last_node ws k
  pub is_use : kind_of ns at ≡ 5
  pub used : rule_of xs ws r (place_of ns at) ≡ q

pub data StoredReaches (xs ns ws : List ℕ) (r : ℕ) : ℕ → ℕ → Type 0 where
  by_use : {k q : ℕ} → StoredUses xs ns ws r k q → StoredReaches xs ns ws r k q
  by_way : {k p q : ℕ} → StoredUses xs ns ws r k p → StoredReaches xs ns ws r p q → StoredReaches xs ns ws r k q

-- ---- uses among nodes and among pieces

-- a node of m from a on is a use of this name
record UseThere (xs ns : List ℕ) (a m : ℕ) (y : List ℕ) : Type 0 where
  at : ℕ
  from : a ≤ at
  upto : at < a + m
  is_use : kind_of ns at ≡ 5
  name : Name
  name_here : Here xs name
  place : place_of ns at ≡ name.start
  letters : name.letters ≡ y

later : {xs ns : List ℕ} {a m : ℕ} {y : List ℕ} → UseThere xs ns (a + 1) m y → UseThere xs ns a (suc m) y
later u =
    record { at = u.at; from = omega (arith, u.from); upto = omega (arith, u.upto); is_use = u.is_use; name = u.name; name_here = u.name_here; place = u.place; letters = u.letters }

use_there : {xs ns : List ℕ} {a : ℕ} {M : List NodeRow} {l : List Piece} {y : List ℕ} → InStep xs M l → NodesAt ns a M → Memᴰ y (used_in l) → UseThere xs ns a (length M) y
unfolding used_in
use_there no_step h m = elim m [ ]
use_there (a_formula s) h m = use_there s h m
use_there {a = a} (a_use {x = x} e p g s) (node_then h more) (Memᴰ.head q) =
    record { at = a; from = omega arith; upto = omega arith; is_use = h.kind_is ∙ e; name = x; name_here = g; place = h.place_is ∙ p; letters = sym q }
use_there {a = a} (a_use e p g s) (node_then h more) (Memᴰ.tail m) = later (use_there {a = a + 1} s more m)
use_there (a_field e b f v s) (node_then h more) m = later (use_there s more m)
use_there (a_binder e b f v w z g s) (node_then h more) m = later (use_there s more m)
use_there (another e b s) (node_then h more) m = later (use_there s more m)

record UseBack (xs ns : List ℕ) (l : List Piece) (at : ℕ) : Type 0 where
  name : Name
  name_here : Here xs name
  place : place_of ns at ≡ name.start
  used : Memᴰ name.letters (used_in l)

use_back : {xs ns : List ℕ} {a : ℕ} {M : List NodeRow} {l : List Piece} → InStep xs M l → NodesAt ns a M → (at : ℕ) → a ≤ at → at < a + length M → kind_of ns at ≡ 5 → UseBack xs ns l at
unfolding used_in
use_back no_step no_nodes at f g k = absurd (omega arith)
use_back (a_formula s) h at f g k = let u = use_back s h at f g k in record { name = u.name; name_here = u.name_here; place = u.place; used = u.used }
use_back {xs} {ns} {a} (a_use {x = x} {l = l} e p z s) (node_then h more) at f g k =
    compared at a (λ w. absurd (omega arith))
    (λ (w : at ≡ a). record { name = x; name_here = z; place = ap (place_of ns) w ∙ h.place_is ∙ p; used = Memᴰ.head refl })
    (λ w. let u : UseBack xs ns l at = use_back {a = a + 1} s more at (omega arith) (omega arith) k in record { name = u.name; name_here = u.name_here; place = u.place; used = Memᴰ.tail u.used })
use_back {xs} {ns} {a} (a_field {l = l} e b y v s) (node_then h more) at f g k =
    compared at a (λ w. absurd (omega arith))
    (λ (w : at ≡ a). let z : 5 ≡ 8 = sym k ∙ ap (kind_of ns) w ∙ h.kind_is ∙ e in absurd (omega arith))
    (λ w. let u : UseBack xs ns l at = use_back s more at (omega arith) (omega arith) k in record { name = u.name; name_here = u.name_here; place = u.place; used = u.used })
use_back {xs} {ns} {a} (a_binder {l = l} e b y v w q z s) (node_then h more) at f g k =
    compared at a (λ w. absurd (omega arith))
    (λ (w : at ≡ a). let z : 5 ≡ 8 = sym k ∙ ap (kind_of ns) w ∙ h.kind_is ∙ e in absurd (omega arith))
    (λ w. let u : UseBack xs ns l at = use_back s more at (omega arith) (omega arith) k in record { name = u.name; name_here = u.name_here; place = u.place; used = u.used })
use_back {xs} {ns} {a} (another {r = r} {l = l} e b s) (node_then h more) at f g k =
    compared at a (λ w. absurd (omega arith))
    (λ (w : at ≡ a). absurd (eqb-false r.kind 5 e (sym h.kind_is ∙ ap (kind_of ns) (sym w) ∙ k)))
    (λ w. let u : UseBack xs ns l at = use_back s more at (omega arith) (omega arith) k in record { name = u.name; name_here = u.name_here; place = u.place; used = u.used })

-- ---- the first that passes a test does

first_hit : (n i m : ℕ) (f : ℕ → Bool) → first_of n i f ≡ m → m < i + n → f m ≡ true
unfolding first_of
first_hit zero i m f e h = absurd (omega arith)
first_hit (suc n) i m f e h =
    ⊎_elim
    (λ (z : f i ≡ true). ap f (sym (sym (first_here n i f z) ∙ e)) ∙ z)
    (λ (z : f i ≡ false). first_hit n (i + 1) m f (sym (first_later n i f z) ∙ e) (omega arith))
    (which (f i))

-- a rule of this name
record OfName (l : List Rule) (x : List ℕ) : Type 0 where
  number : ℕ
  rule_there : Rule
  there : At l number rule_there
  letters : (rule_name rule_there).letters ≡ x

of_use : {t : Rules} {x y : List ℕ} → Uses t x y → OfName (rules_in t) x
of_use u = let n = member_at u.there in record { number = n.number; rule_there = u.by; there = n.there; letters = u.named }

of_reach : {t : Rules} {x y : List ℕ} → Reaches t x y → OfName (rules_in t) x
of_reach (directly u) = of_use u
of_reach (through u more) = of_use u

-- ---- places of names go up with numbers

from_on : {most p : ℕ} {l : List Rule} {j : ℕ} {y : Rule} → Ascending most p l → At l j y → p ≤ (rule_name y).start
from_on ascended a = elim a [ ]
from_on (ascends u v a) at_first = u
from_on (ascends u v a) (at_later b) = let h = from_on a b in omega arith

later_place : {most p : ℕ} {l : List Rule} {i j : ℕ} {x y : Rule} → Ascending most p l → At l i x → At l j y → i ≤ j → (rule_name x).start ≤ (rule_name y).start
later_place a at_first at_first h = omega arith
later_place (ascends u v a) at_first (at_later b) h = from_on a b
later_place (ascends u v a) (at_later b) (at_later c) h = later_place a b c (omega arith)
later_place a (at_later b) at_first h = absurd (omega arith)

-- ---- the start rule is number 0, and a number is one rule's

first_at : (t : Rules) → At (rules_in t) 0 (start_rule t)
unfolding rules_in
first_at (last_rule x) = at_first
first_at (and_rules x t) = at_first

one_at : {l : List Rule} {i : ℕ} {x y : Rule} → At l i x → At l i y → x ≡ y
one_at at_first at_first = refl
one_at (at_later a) (at_later b) = one_at a b

-- ---- a text that spells a tree without faults of names

module _ (xs ns ts ws : List ℕ) (r : ℕ) (t : Rules) (h : SpelledBy xs t) (w : Rowed t ns ts ws r) (none-wrong : refusal_6 t ≡ none) where
  abbrev all : List Rule
  all = rules_in t

  facts : {j : ℕ} {x : Rule} → At all j x → RuleFacts xs ns ws j x
  facts {j} {x} a =
      subst (λ (k : ℕ). RuleFacts xs ns ws k x) (let q : 0 + j ≡ j = omega arith in q) (rule_facts t no_rule (finish h.end ∷ []) w.nodes_are w.rules_are (spelled_stand h) a)

  one : {i j : ℕ} {x y : Rule} → At all i x → At all j y → (rule_name x).letters ≡ (rule_name y).letters → i ≡ j
  one a b e = distinct (rule_names t) [] (named t none-wrong) a b e

  -- ---- from the tree to numbers

  step_forward : {x y : List ℕ} {j m : ℕ} {r1 r2 : Rule} → Uses t x y → At all j r1 → (rule_name r1).letters ≡ x → At all m r2 → (rule_name r2).letters ≡ y → StoredUses xs ns ws r j m
  step_forward {x} {y} {j} {m} {r1} {r2} u a e b g =
      let f : RuleFacts xs ns ws j r1 = facts a
      in let n : Numbered all u.by = member_at u.there
      in let z : n.number ≡ j = one n.there a (u.named ∙ sym e)
      in let k : RuleFacts xs ns ws n.number u.by = facts n.there
      in let v : UseThere xs ns k.node (length (node_rows false (rule_body u.by) k.term)) y = use_there k.step k.nodes_are u.used
      in let c : NumberOf xs ws all 0 v.name = number_of {ns = ns} all 0 v.name v.name_here (λ i q p. subst (λ (s : ℕ). RuleFacts xs ns ws s q) (let q : i ≡ 0 + i = omega arith in q) (facts p)) (among_at v.name b (g ∙ sym v.letters))
      in let o : c.number ≡ m = one c.there b (c.same ∙ v.letters ∙ sym g)
      in subst (λ (s : ℕ). StoredUses xs ns ws r s m) z
      (record {
        at = v.at;
        rule = omega (arith, w.number, at_below n.there);
        from = omega (arith, k.first_is, v.from);
        upto = omega (arith, k.last_is, v.upto);
        is_use = v.is_use;
        used = ap (rule_of xs ws r) v.place ∙ ap (λ (s : ℕ). first_of s 0 (named_so xs ws v.name)) w.number ∙ c.found ∙ (let q : 0 + c.number ≡ m = omega arith in q);
      })

  pub forward : {x y : List ℕ} {j m : ℕ} {r1 r2 : Rule} → Reaches t x y → At all j r1 → (rule_name r1).letters ≡ x → At all m r2 → (rule_name r2).letters ≡ y → StoredReaches xs ns ws r j m
  forward (directly u) a e b g = by_use (step_forward u a e b g)
  forward (through u more) a e b g = let o = of_reach more in by_way (step_forward u a e o.there o.letters) (forward more o.there o.letters b g)

  -- ---- and back

  step_back : {j m : ℕ} {r1 r2 : Rule} → StoredUses xs ns ws r j m → At all j r1 → At all m r2 → Uses t (rule_name r1).letters (rule_name r2).letters
  step_back {j} {m} {r1} {r2} u a b =
      let f : RuleFacts xs ns ws j r1 = facts a
      in let g : RuleFacts xs ns ws m r2 = facts b
      in let v : UseBack xs ns (rule_pieces r1) u.at = use_back f.step f.nodes_are u.at (omega (arith, f.first_is, u.from)) (omega (arith, f.last_is, u.upto)) u.is_use
      in let o : first_of r 0 (named_so xs ws v.name) ≡ m = sym (ap (rule_of xs ws r) v.place) ∙ u.used
      in let z : named_so xs ws v.name m ≡ true = first_hit r 0 m (named_so xs ws v.name) o (omega (arith, w.number, at_below b))
      in let e : (rule_name r2).letters ≡ v.name.letters = word_equal (rule_name r2).letters v.name.letters (sym (named_here ws m g.name_is g.name_here v.name_here) ∙ z)
      in record { by = r1; there = at_member a; named = refl; used = Memᴰ.cast e v.used }

  begins_with : {k q : ℕ} → StoredReaches xs ns ws r k q → k < r
  begins_with (by_use u) = u.rule
  begins_with (by_way u more) = u.rule

  pub back : {j m : ℕ} {r1 r2 : Rule} → StoredReaches xs ns ws r j m → At all j r1 → At all m r2 → Reaches t (rule_name r1).letters (rule_name r2).letters
  back (by_use u) a b = directly (step_back u a b)
  back (by_way {p = p} u more) a b = let o = rule_at all p (omega (arith, begins_with more, w.number)) in through (step_back u a o.there) (back more o.there b)

  -- ---- a rule that reaches itself

  pub recursive_back : (k : ℕ) → StoredReaches xs ns ws r k k → RecursiveAt t (named_at ws k)
  recursive_back k s =
      let o : RuleAt all k = rule_at all k (omega (arith, begins_with s, w.number))
      in record { itself = o.which_rule; there = at_member o.there; place = sym (facts o.there).name_is; reaches = back s o.there o.there }

  pub record Stands (p : ℕ) : Type 0 where
    pub number : ℕ
    pub below : number < length all
    pub place : named_at ws number ≡ p
    pub reaches : StoredReaches xs ns ws r number number

  pub recursive_forward : (p : ℕ) → RecursiveAt t p → Stands p
  recursive_forward p s =
      let n : Numbered all s.itself = member_at s.there
      in record { number = n.number; below = at_below n.there; place = (facts n.there).name_is ∙ s.place; reaches = forward s.reaches n.there refl n.there refl }

  -- a rule that is not before another has no smaller place
  ordered : (k m : ℕ) → k < length all → m < length all → (m < k → ⊥) → named_at ws k ≤ named_at ws m
  ordered k m f g n =
      let a : RuleAt all k = rule_at all k f
      in let b : RuleAt all m = rule_at all m g
      in let l : k ≤ m = compared m k (λ y. absurd (n y)) (λ (y : m ≡ k). omega arith) (λ y. omega arith)
      in let o : (rule_name a.which_rule).start ≤ (rule_name b.which_rule).start = later_place (rules_ascend t (finish h.end ∷ []) (spelled_stand h)) a.there b.there l
      in omega (arith, (facts a.there).name_is, (facts b.there).name_is)

  -- refusal 7 of what is stored is the tree's: the first rule that reaches itself
  pub refused_7 : (k : ℕ) → StoredReaches xs ns ws r k k → ((q : ℕ) → q < k → StoredReaches xs ns ws r q q → ⊥) → Refusal7 t (named_at ws k)
  refused_7 k s least =
      record {
        recursive = recursive_back k s;
        first = λ q z. (let v = recursive_forward q z in subst (λ (n : ℕ). named_at ws k ≤ n) v.place (ordered k v.number (omega (arith, begins_with s, w.number)) v.below (λ y. least v.number y v.reaches)));
      }

  -- and where none does, none does
  pub acyclic_7 : ((k : ℕ) → StoredReaches xs ns ws r k k → ⊥) → Acyclic t
  acyclic_7 never p s = let z = recursive_forward p s in never z.number z.reaches

  -- ---- a rule that is not reached

  -- not the start rule, which does not reach it
  pub record StoredUnreached (k : ℕ) : Type 0 where
    pub there : k < r
    pub other : k ≡ 0 → ⊥
    pub unreached : StoredReaches xs ns ws r 0 k → ⊥

  pub unreached_back : (k : ℕ) → StoredUnreached k → UnreachedAt t (named_at ws k)
  unreached_back k u = record { unused = o.which_rule; there = at_member o.there; place = sym (facts o.there).name_is; unreached = not }
    where
      o : RuleAt all k
      o = rule_at all k (omega (arith, u.there, w.number))

      not : Reached t (rule_name o.which_rule).letters → ⊥
      not (inl e) = u.other (one o.there (first_at t) e)
      not (inr s) = u.unreached (forward s (first_at t) refl o.there refl)

  pub record StandsUnreached (p : ℕ) : Type 0 where
    pub number : ℕ
    pub below : number < length all
    pub place : named_at ws number ≡ p
    pub unreached : StoredUnreached number

  pub unreached_forward : (p : ℕ) → UnreachedAt t p → StandsUnreached p
  unreached_forward p s =
      let n : Numbered all s.unused = member_at s.there
      in let start : (n.number ≡ 0) → s.unused ≡ start_rule t = λ z. one_at (subst (λ (k : ℕ). At all k s.unused) z n.there) (first_at t)
      in record {
        number = n.number;
        below = at_below n.there;
        place = (facts n.there).name_is ∙ s.place;
        unreached = record {
          there = omega (arith, w.number, at_below n.there);
          other = λ z. s.unreached (inl (ap (λ (x : Rule). (rule_name x).letters) (start z)));
          unreached = λ q. s.unreached (inr (back q (first_at t) n.there));
        };
      }

  -- refusal 12 of what is stored is the tree's: the first rule that is not reached
  pub refused_12 : (k : ℕ) → StoredUnreached k → ((q : ℕ) → q < k → StoredUnreached q → ⊥) → Refusal12 t (named_at ws k)
  refused_12 k u least =
      record {
        unreached = unreached_back k u;
        first = λ q z. (let v = unreached_forward q z in subst (λ (n : ℕ). named_at ws k ≤ n) v.place (ordered k v.number (omega (arith, u.there, w.number)) v.below (λ y. least v.number y v.unreached)));
      }

  -- and where all are, all are
  pub reached_12 : ((k : ℕ) → StoredUnreached k → ⊥) → (p : ℕ) → UnreachedAt t p → ⊥
  reached_12 never p s = let z = unreached_forward p s in never z.number z.unreached
