-- What a part adds to the terms: words that are read as a list of terms, and nothing else changes.
-- Assumes nothing.
use Prim.Native.Nat.{ℕ, zero, suc, ◌+◌, ◌≤◌, ◌<◌}
use mathlib.Core.Path.{◌≡◌, refl, sym, ap, ◌∙◌}
use mathlib.Core.Bool.{cond}
use mathlib.Core.List.{List, [], ◌∷◌, ◌++◌}
use native.Mathlib.Omega.{arith}
use borrow.Author.Tests.{leb-false, le-leb}
use lib.Dec.{leb}
use lib.ListN.{length, get_or, length-append}
use Rattle.basis.specs.Limits.{max_terms}
use Rattle.basis.proofs.Booleans.{picked}
use Rattle.text_store.specs.Words.{term_start, is_use, terms_room}
use Rattle.term_words.specs.Words.{term_of}
use Rattle.term_words.specs.declared.Term.{Term}
use Rattle.text_store.specs.Store.{State, state, nodes_of, terms_of, counted, put_term, add, node_words, term_words, rule_words, binders_of, rules_of}
use Rattle.text_store.proofs.StoreLaws.{length_put_term, term_before, term_put}
use Rattle.text_store.proofs.Numbers.{at_tag, at_value, at_term}
use Rattle.text_shapes.specs.TermShapes.{read_term, read_terms}

-- ---- reading terms

pub read_same : (ts us : List ℕ) (n k : ℕ) → ((j : ℕ) → term_start k ≤ j → j < term_start (k + n) → get_or us j 0 ≡ get_or ts j 0) → read_terms us k n ≡ read_terms ts k n
unfolding read_terms
read_same ts us zero k h = refl
read_same ts us (suc n) k h =
    rw (h (term_start k + at_tag) (omega arith) (omega arith), h (term_start k + at_value) (omega arith) (omega arith), h (term_start k + at_term) (omega arith) (omega arith), read_same ts us n (k + 1) (λ j a b. h j (omega arith) (omega arith)))

pub read_split : (ts : List ℕ) (m n k : ℕ) → read_terms ts k (m + n) ≡ read_terms ts k m ++ read_terms ts (k + m) n
unfolding read_terms
read_split ts zero n k =
    let a : 0 + n ≡ n = omega arith in
    let b : k + 0 ≡ k = omega arith in
    rw (a, b)
read_split ts (suc m) n k =
    let a : suc m + n ≡ suc (m + n) = omega arith in
    let b : k + suc m ≡ k + 1 + m = omega arith in
    rw (a, b) (ap (λ (l : List Term). read_term ts k ∷ l) (read_split ts m n (k + 1)))

-- ---- what stays

-- only terms are added
pub record TermsOnly (a b : State) : Type 0 where
  pub same_nodes : node_words b ≡ node_words a
  pub same_rules : rule_words b ≡ rule_words a
  pub nodes_count : nodes_of b ≡ nodes_of a
  pub binders_count : binders_of b ≡ binders_of a
  pub rules_count : rules_of b ≡ rules_of a
  pub same_length : length (term_words b) ≡ length (term_words a)
  pub grows : terms_of a ≤ terms_of b

-- ... these
pub record Added (L : List Term) (a b : State) : Type 0 where
  pub count : terms_of b ≡ terms_of a + length L
  pub kept : (k : ℕ) → k < term_start (terms_of a) → get_or (term_words b) k 0 ≡ get_or (term_words a) k 0
  pub read : read_terms (term_words b) (terms_of a) (length L) ≡ L

-- ... some with P, where they are kept
pub record Adds (P : List Term → Type 0) (a b : State) : Type 0 where
  pub list : List Term
  pub is : P list
  pub added : Added list a b

pub record Reads (P : List Term → Type 0) (a b : State) : Type 0 where
  pub only : TermsOnly a b
  pub adds : terms_of b ≤ max_terms → length (term_words a) ≡ terms_room → Adds P a b

only_none : {a : State} → TermsOnly a a
only_none = record { same_nodes = refl; same_rules = refl; nodes_count = refl; binders_count = refl; rules_count = refl; same_length = refl; grows = omega arith }

pub only_both : {a b c : State} → TermsOnly a b → TermsOnly b c → TermsOnly a c
only_both p q =
    record {
      same_nodes = q.same_nodes ∙ p.same_nodes;
      same_rules = q.same_rules ∙ p.same_rules;
      nodes_count = q.nodes_count ∙ p.nodes_count;
      binders_count = q.binders_count ∙ p.binders_count;
      rules_count = q.rules_count ∙ p.rules_count;
      same_length = q.same_length ∙ p.same_length;
      grows = omega arith;
    }

added_both : {L M : List Term} {a b c : State} → Added L a b → Added M b c → Added (L ++ M) a c
added_both {L} {M} {a} {b} {c} p q =
    let n : length (L ++ M) ≡ length L + length M = length-append L M in
    record {
      count = omega (arith, p.count, q.count);
      kept = λ k h. q.kept k (omega (arith, p.count)) ∙ p.kept k h;
      read =
          ap (read_terms (term_words c) (terms_of a)) n
          ∙ read_split (term_words c) (length L) (length M) (terms_of a)
          ∙ ap (λ (l : List Term). l ++ read_terms (term_words c) (terms_of a + length L) (length M))
          (read_same (term_words b) (term_words c) (length L) (terms_of a) (λ j h k. q.kept j (omega (arith, p.count))) ∙ p.read)
          ∙ ap (λ (k : ℕ). L ++ read_terms (term_words c) k (length M)) (sym p.count)
          ∙ ap (λ (l : List Term). L ++ l) q.read;
    }

-- nothing is added
pub none : {P : List Term → Type 0} {a : State} → P [] → Reads P a a
unfolding read_terms
none p = record { only = only_none; adds = λ h w. record { list = []; is = p; added = record { count = omega arith; kept = λ k l. refl; read = refl } } }

-- one part after the other
pub next : {P Q R : List Term → Type 0} {a b c : State} → ((L M : List Term) → P L → Q M → R (L ++ M)) → Reads P a b → Reads Q b c → Reads R a c
next {P} {Q} {R} {a} {b} {c} f p q =
    record {
      only = only_both p.only q.only;
      adds = λ h w.
          let l = p.adds (omega (arith, q.only.grows)) w in
          let m = q.adds h (p.only.same_length ∙ w) in
          record { list = l.list ++ m.list; is = f l.list m.list l.is m.is; added = added_both l.added m.added };
    }

pub reads_as : {P Q : List Term → Type 0} {a b : State} → ((L : List Term) → P L → Q L) → Reads P a b → Reads Q a b
reads_as f p =
    record { only = p.only; adds = λ h w. let l = p.adds h w in record { list = l.list; is = f l.list l.is; added = l.added } }

-- ---- a term

-- what a term of a tag, value and place is
abbrev pub term_read : ℕ → ℕ → ℕ → Term
term_read tag value place = term_of tag (cond (is_use tag) place value) 0

module _ (ts : List ℕ) (t tag value place origin : ℕ) (w : length ts ≡ terms_room) (h : t < max_terms) where
  put_read : read_term (put_term ts t tag value place origin) t ≡ term_read tag value place
  put_read =
      let put = term_put ts t tag value place origin h w in
      rw (put at_tag (omega arith), put at_value (omega arith), put at_term (omega arith))

  put_added : (ns rs : List ℕ) (n b r : ℕ) → Added (term_read tag value place ∷ []) (state ns ts rs n t b r) (state ns (put_term ts t tag value place origin) rs n (t + 1) b r)
  unfolding read_terms
  put_added ns rs n b r = record { count = refl; kept = term_before ts t tag value place origin h; read = ap (λ (x : Term). x ∷ []) put_read }

pub adds_term : (tag value place origin : ℕ) (a : State) → Reads (λ L. L ≡ term_read tag value place ∷ []) a (add tag value place origin a)
adds_term tag value place origin (state ns ts rs n t b r) =
    record {
      only = record { same_nodes = refl; same_rules = refl; nodes_count = refl; binders_count = refl; rules_count = refl; same_length = length_put_term ts t tag value place origin; grows = more };
      adds = λ h w.
          let k : t < max_terms = less h in
          record {
            list = term_read tag value place ∷ [];
            is = refl;
            added = rw (le-leb t max_terms (omega arith)) (put_added ts t tag value place origin w k ns rs n b r);
          };
    }
  where
    more : t ≤ counted max_terms t
    more = picked (λ (m : ℕ). t ≤ m) (leb t max_terms) (λ e. omega arith) (λ e. omega arith)

    less : counted max_terms t ≤ max_terms → t < max_terms
    less = picked (λ (m : ℕ). m ≤ max_terms → t < max_terms) (leb t max_terms) (λ e h. omega arith) (λ e h. absurd (omega (arith, leb-false t max_terms e)))
