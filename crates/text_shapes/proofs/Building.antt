-- A node is put in front of what stands from node i on: a tree is made of it.
-- Assumes nothing.
use Prim.Native.Nat.{ℕ, ◌+◌, ◌-◌, ◌≤◌, ◌<◌}
use mathlib.Core.Path.{◌≡◌, refl, sym, ap, subst, ◌∙◌}
use mathlib.Core.List.{List}
use native.Mathlib.Omega.{arith}
use borrow.Author.Tests.{le-leb}
use lib.ListN.{get_or}
use Rattle.basis.specs.Limits.{max_constructs}
use Rattle.text_store.specs.Words.{node_start, node_word}
use Rattle.text_store.specs.Store.{State, state, nodes_of, terms_of, counted, insert, node_words, term_words, rule_words, binders_of, rules_of}
use Rattle.text_store.proofs.Numbers.{at_kind, at_size, at_condition_from, at_condition_end}
use Rattle.text_shapes.specs.NodeShapes.{Headed, Unconditioned, Shape, tree, Holds}
use Rattle.text_store.proofs.StoreLaws.{ten, node_before, node_at, node_after}
use Rattle.text_shapes.proofs.Moving.{TermsSame, all_words, moves, stays}
use Rattle.text_shapes.proofs.Growth.{Fine}
use Rattle.text_shapes.proofs.Claims.{TermsOnly, Kept, Gives}

-- ---- what is kept

-- the words of two lists that are one
pub same_word : {l m : List ℕ} → l ≡ m → (k : ℕ) → get_or l k 0 ≡ get_or m k 0
same_word e k = ap (λ (l : List ℕ). get_or l k 0) e

pub kept_refl : (i : ℕ) (a : State) → Kept i a a
kept_refl i a = record { nodes = λ k h. refl; terms = λ k h. refl; rules = λ k h. refl; more_terms = omega arith; more_rules = omega arith }

pub kept_trans : {i j : ℕ} {a b c : State} → Kept i a b → Kept j b c → i ≤ j → Kept i a c
kept_trans p q h =
    record {
      nodes = λ k l. q.nodes k (omega arith) ∙ p.nodes k l;
      terms = λ k l. q.terms k (omega (arith, p.more_terms)) ∙ p.terms k l;
      rules = λ k l. q.rules k (omega (arith, p.more_rules)) ∙ p.rules k l;
      more_terms = omega (arith, p.more_terms, q.more_terms);
      more_rules = omega (arith, p.more_rules, q.more_rules);
    }

pub kept_less : (i : ℕ) {j : ℕ} {a b : State} → i ≤ j → Kept j a b → Kept i a b
kept_less i {j} {a} h k = kept_trans (kept_refl i a) k h

pub kept_terms : (i : ℕ) {a b : State} → TermsOnly a b → Kept i a b
kept_terms i t =
    record {
      nodes = λ k h. same_word t.node_words_same k;
      terms = t.kept;
      rules = λ k h. same_word t.rule_words_same k;
      more_terms = t.grow;
      more_rules = omega (arith, t.rules_same);
    }

-- a shape among what is kept
pub holds_kept : (same : TermsSame) {xs : List ℕ} {s : Shape} {i e f g β j : ℕ} {a b : State} → Kept j a b → e ≤ j → g ≤ terms_of a → Holds xs (node_words a) (term_words a) s i e f g β → Holds xs (node_words b) (term_words b) s i e f g β
holds_kept same {a = a} {b = b} k h l t = stays same (node_words b) (term_words b) t (λ q z. k.nodes q (omega arith)) (record { at = λ q z y. k.terms q (omega arith) })

pub free_kept : {i j : ℕ} {a b : State} → Kept j a b → i < j → Unconditioned (node_words a) i → Unconditioned (node_words b) i
free_kept {i} k h u = record { from_is = k.nodes (node_start i + at_condition_from) (omega arith) ∙ u.from_is; end_is = k.nodes (node_start i + at_condition_end) (omega arith) ∙ u.end_is }

-- what keeps all before i comes first
pub gives_from : {xs : List ℕ} {i f u : ℕ} {a b c : State} → Kept i a b → rules_of b ≡ rules_of a → Gives xs i f u b c → Gives xs i f u a c
gives_from k e g = record { kept = kept_trans k g.kept (omega arith); steady = g.steady ∙ e; part = g.part; free = g.free }

pub gives_after_terms : {xs : List ℕ} {i f u : ℕ} {a b c : State} → TermsOnly a b → Gives xs i f u b c → Gives xs i f u a c
gives_after_terms {i = i} t g = gives_from (kept_terms i t) t.rules_same g

-- ---- a node is put

pub record Inserted (i kind place a b c d e : ℕ) (st st' : State) : Type 0 where
  pub count : nodes_of st' ≡ nodes_of st + 1
  pub below : i ≤ nodes_of st
  pub term_words_same : term_words st' ≡ term_words st
  pub rule_words_same : rule_words st' ≡ rule_words st
  pub terms_same : terms_of st' ≡ terms_of st
  pub binders_same : binders_of st' ≡ binders_of st
  pub rules_same : rules_of st' ≡ rules_of st
  pub before : (j : ℕ) → j < node_start i → get_or (node_words st') j 0 ≡ get_or (node_words st) j 0
  pub at : (w : ℕ) → w < 10 → node_word (node_words st') i w ≡ get_or (ten kind (nodes_of st' - i) place a b c d e) w 0
  pub after : (j k : ℕ) → i ≤ j → j < nodes_of st → k < 10 → node_word (node_words st') (j + 1) k ≡ node_word (node_words st) j k

counted_on : (limit n : ℕ) → n ≤ limit → counted limit n ≡ n + 1
counted_on limit n h = rw (le-leb n limit h)

insert_fine : (kind place i a b c d e : ℕ) (st : State) → Fine st → Fine (insert kind place i a b c d e st) → i ≤ nodes_of st → Inserted i kind place a b c d e st (insert kind place i a b c d e st)
insert_fine kind place i a b c d e (state ns ts rs n t u r) f g h =
    let z : counted max_constructs n ≡ n + 1 = counted_on max_constructs n f.nodes
    in let y : counted max_constructs n ≤ max_constructs = g.nodes
    in let x : i < max_constructs = omega arith
    in record {
      count = z;
      below = h;
      term_words_same = refl;
      rule_words_same = refl;
      terms_same = refl;
      binders_same = refl;
      rules_same = refl;
      before = node_before ns i kind (counted max_constructs n - i) place a b c d e x f.node_length;
      at = node_at ns i kind (counted max_constructs n - i) place a b c d e x f.node_length;
      after = λ j k p q l. node_after ns i kind (counted max_constructs n - i) place a b c d e x f.node_length (node_start j + k) (node_start (j + 1) + k) (omega arith) (omega arith) (omega arith);
    }

pub inserted : (kind place i a b c d e : ℕ) {st st' : State} → st' ≡ insert kind place i a b c d e st → Fine st → Fine st' → i ≤ nodes_of st → Inserted i kind place a b c d e st st'
inserted kind place i a b c d e {st} {st'} z f g h = subst (Inserted i kind place a b c d e st) (sym z) (insert_fine kind place i a b c d e st f (subst Fine z g) h)

module _ {i kind place a b c d e : ℕ} {st st' : State} (ins : Inserted i kind place a b c d e st st') where
  insert_kept : Kept i st st'
  insert_kept =
      record {
        nodes = ins.before;
        terms = λ k h. same_word ins.term_words_same k;
        rules = λ k h. same_word ins.rule_words_same k;
        more_terms = omega (arith, ins.terms_same);
        more_rules = omega (arith, ins.rules_same);
      }

  pub headed : Headed (node_words st') i (nodes_of st') kind
  headed = record { kind_is = ins.at at_kind (omega arith); size_is = ins.at at_size (omega arith); below = omega (arith, ins.count, ins.below) }

  insert_free : Unconditioned (node_words st') i
  insert_free = record { from_is = ins.at at_condition_from (omega arith); end_is = ins.at at_condition_end (omega arith) }

  -- what stands behind the node
  pub behind : (same : TermsSame) {xs : List ℕ} {s : Shape} {f g β : ℕ} → Holds xs (node_words st) (term_words st) s i (nodes_of st) f g β → Holds xs (node_words st') (term_words st') s (i + 1) (nodes_of st') f g β
  behind same {xs} {s} {f} {g} {β} h =
      rw ins.count
      (moves same (node_words st') 1 {ts' = term_words st'} h (all_words s h (record { at = ins.after }))
      (record { at = λ k p q. same_word ins.term_words_same k }))

  pub behind_free : i < nodes_of st → Unconditioned (node_words st) i → Unconditioned (node_words st') (i + 1)
  behind_free h u =
      record { from_is = ins.after i at_condition_from (omega arith) h (omega arith) ∙ u.from_is; end_is = ins.after i at_condition_end (omega arith) h (omega arith) ∙ u.end_is }

  -- the tree that is made
  pub builds : {xs : List ℕ} {f u : ℕ} (β : ℕ) → binders_of st ≡ u + β → Holds xs (node_words st') (term_words st') tree i (nodes_of st') f (terms_of st) β → Gives xs i f u st st'
  builds β z h = record { kept = insert_kept; steady = ins.rules_same; part = record { count = β; bound = ins.binders_same ∙ z; holds = rw ins.terms_same h }; free = insert_free }
