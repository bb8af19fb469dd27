-- A list of the table's terms is the list that was read, each variable under its number.
-- Assumes nothing.
use Prim.Native.Nat.{ℕ, zero, suc, ◌+◌, ◌*◌, ◌-◌, ◌/◌, ◌^◌, min, ◌≤◌, ◌<◌}
use mathlib.Core.Path.{◌≡◌, refl, sym, ap, ap₂, subst, ◌∙◌}
use mathlib.Core.Logic.{◌⊎◌}
use mathlib.Core.Bool.{true}
use mathlib.Core.List.{List, ◌∷◌, map}
use native.Mathlib.Omega.{arith}
use borrow.Author.Tests.{lt-ltb}
use lib.ListN.{length, get_or, drop, length-take, length-drop}
use lib.Seq.{get_or-take, get_or-drop}
use Rattle.basis.specs.Limits.{max_variables, max_terms, table_words}
use Rattle.term_words.specs.Words.{term_of, term_at, terms_from, terms}
use Rattle.term_words.specs.declared.Term.{Term}
use Rattle.table_layout.specs.Places.{word, terms_at}
use Rattle.table_layout.specs.Held
use Rattle.term_words.proofs.KnownTerms.{KnownTerm, AllKnown}
use Rattle.text_shapes.specs.TermShapes.{read_term, read_terms, rename_term}
use Rattle.text_store.specs.Words.{term_tag, term_value, stored_term_at, is_use}
use Rattle.text_encoding.specs.Lists.{narrow}
use Rattle.text_encoding.specs.Numbers.{variable_of}
use Rattle.text_encoding.specs.Encoded.{term_words}
use Rattle.text_wellformed.proofs.TermsKnown.{term_back}

-- ---- the table's words of a term

module _ (ws : List ℕ) (many : length ws ≡ table_words) where
  table_length : length (Held.term_words ws) ≡ (3 * max_terms)
  table_length = length-take (3 * max_terms) (drop terms_at ws) ∙ ap (min (3 * max_terms)) (length-drop terms_at ws) ∙ ap (λ (n : ℕ). min (3 * max_terms) (n - terms_at)) many

  table_word : (k j p : ℕ) → k < max_terms → j < 3 → p ≡ k * 3 + j → get_or (Held.term_words ws) p 0 ≡ word ws (terms_at + 3 * k + j)
  table_word k j p h l z = let m : p < (3 * max_terms) = omega arith in get_or-take (3 * max_terms) (drop terms_at ws) p 0 m ∙ get_or-drop terms_at ws p 0 ∙ ap (λ (q : ℕ). get_or ws q 0) (omega arith)

  pub table_term : (k : ℕ) → k < max_terms → term_at (Held.term_words ws) k ≡ term_of (word ws (terms_at + 3 * k + 0)) (word ws (terms_at + 3 * k + 1)) (word ws (terms_at + 3 * k + 2))
  unfolding term_at
  table_term k h =
      let l : k < length (Held.term_words ws) / 3 = rw table_length (omega arith)
      in rw (lt-ltb k (length (Held.term_words ws) / 3) l, table_word k 0 (k * 3) h (omega arith) (omega arith), table_word k 1 (k * 3 + 1) h (omega arith) refl, table_word k 2 (k * 3 + 2) h (omega arith) refl)

-- ---- a list of node i, in a rule whose first node is a: n terms from term f of those read, in the table from term s on

pub record Listed (xs ns ts ws : List ℕ) (a i s f n : ℕ) : Type 0 where
  pub many : length ws ≡ table_words
  pub fits : s + n ≤ max_terms
  pub at : (m j : ℕ) → m < n → j < 3 → word ws (terms_at + 3 * (s + m) + j) ≡ narrow (get_or (term_words xs ns ts a i (f + m)) j 0)
  pub numbers : (m : ℕ) → m < n → (term_tag ts (f + m) ≡ 1) ⊎ (term_tag ts (f + m) ≡ 33) → term_value ts (f + m) < 2 ^ 63
  pub small : (m : ℕ) → m < n → is_use (term_tag ts (f + m)) ≡ true → variable_of xs ns a i (stored_term_at ts (f + m)) < max_variables

-- the number of a variable, cut where a name is no variable's
abbrev pub cut_variable : (xs ns : List ℕ) (a i p : ℕ) → ℕ
cut_variable xs ns a i p = min (max_variables - 1) (variable_of xs ns a i p)

pub known_at : (ts : List ℕ) (n f m : ℕ) → AllKnown (read_terms ts f n) → m < n → KnownTerm (read_term ts (f + m))
unfolding read_terms
known_at ts zero f m k h = absurd (omega arith)
known_at ts (suc n) f zero k h = let z : f + 0 ≡ f = omega arith in subst (λ (q : ℕ). KnownTerm (read_term ts q)) (sym z) k.0
known_at ts (suc n) f (suc m) k h = let z : f + 1 + m ≡ f + suc m = omega arith in subst (λ (q : ℕ). KnownTerm (read_term ts q)) z (known_at ts n (f + 1) m k.1 (omega arith))

terms_renamed : (T ts : List ℕ) (g : ℕ → ℕ) (n s f : ℕ) → ((m : ℕ) → m < n → term_at T (s + m) ≡ rename_term g (read_term ts (f + m))) → terms_from T s n ≡ map (rename_term g) (read_terms ts f n)
unfolding terms_from read_terms
terms_renamed T ts g zero s f h = refl
terms_renamed T ts g (suc n) s f h =
    let y : s ≡ s + 0 = omega arith
    in let z : f + 0 ≡ f = omega arith
    in ap₂ (λ (x : Term) (L : List Term). x ∷ L) (ap (term_at T) y ∙ h 0 (omega arith) ∙ ap (λ (q : ℕ). rename_term g (read_term ts q)) z)
    (terms_renamed T ts g n (s + 1) (f + 1)
    (λ m l. ap (term_at T) (let w : s + 1 + m ≡ s + suc m = omega arith in w) ∙ h (suc m) (omega arith) ∙ ap (λ (q : ℕ). rename_term g (read_term ts q)) (let w : f + suc m ≡ f + 1 + m = omega arith in w)))

module _ {xs ns ts ws : List ℕ} {a i s f n : ℕ} (l : Listed xs ns ts ws a i s f n) where
  -- under any numbers that are the variables' own below 64
  module _ (g : ℕ → ℕ) (same : (p : ℕ) → variable_of xs ns a i p < max_variables → variable_of xs ns a i p ≡ g p) where
    pub term_named : (m : ℕ) → m < n → KnownTerm (read_term ts (f + m)) → term_at (Held.term_words ws) (s + m) ≡ rename_term g (read_term ts (f + m))
    term_named m h k =
        table_term ws l.many (s + m) (omega (arith, l.fits))
        ∙ rw (l.at m 0 h (omega arith), l.at m 1 h (omega arith), l.at m 2 h (omega arith))
        (term_back g (is_use (term_tag ts (f + m))) (term_tag ts (f + m)) (term_value ts (f + m)) (stored_term_at ts (f + m)) (variable_of xs ns a i (stored_term_at ts (f + m))) refl k (l.numbers m h) (λ e. (same (stored_term_at ts (f + m)) (l.small m h e), omega (arith, l.small m h e))))

    pub terms_named : AllKnown (read_terms ts f n) → terms (Held.term_words ws) s (s + n) ≡ map (rename_term g) (read_terms ts f n)
    terms_named k =
        let z : s + n - s ≡ n = omega arith
        in rw z (terms_renamed (Held.term_words ws) ts g n s f (λ m h. term_named m h (known_at ts n f m k h)))

  pub term_listed : (m : ℕ) → m < n → KnownTerm (read_term ts (f + m)) → term_at (Held.term_words ws) (s + m) ≡ rename_term (cut_variable xs ns a i) (read_term ts (f + m))
  term_listed = term_named (cut_variable xs ns a i) (λ p h. omega arith)

  pub terms_listed : AllKnown (read_terms ts f n) → terms (Held.term_words ws) s (s + n) ≡ map (rename_term (cut_variable xs ns a i)) (read_terms ts f n)
  terms_listed = terms_named (cut_variable xs ns a i) (λ p h. omega arith)
