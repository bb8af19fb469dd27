-- What a token is, by its code.
-- Assumes nothing.
use Prim.Native.Nat.{ℕ, ◌≤◌}
use mathlib.Core.Path.{◌≡◌, refl, sym, ap, subst, ◌∙◌}
use mathlib.Core.Logic.{◌⊎◌, inl, inr, ⊎_elim}
use mathlib.Core.Bool.{Bool, true, false, ◌&&◌, ◌||◌}
use mathlib.Core.List.{List, [], ◌∷◌}
use native.Mathlib.Omega.{arith}
use borrow.Author.Tests.{eqb-true, leb-true}
use lib.Dec.{eqb, leb}
use lib.ListN.{length}
use Rattle.basis.proofs.Booleans.{both_second, which, picked, either_cases}
use Rattle.text_header.specs.Spans.{starts}
use Rattle.text_header.proofs.Runs.{word_equal, word_self}
use Rattle.text_tokens.specs.Names.{word_number, reserved_of, is_same}
use Rattle.text_tokens.specs.declared.Kind.{Kind}
use Rattle.text_parsing.specs.Terminals.{name_like}
use Rattle.tree.specs.Lexemes.{Sign, Name, Number, Literal, Lexeme, sign, word, numeral, quoted, stray, finish, place_of}
use Rattle.tree.specs.Tree.{eod_word, Single}
use Rattle.tree.specs.Spelling.{field_word, var_word, spelled_as}
use Rattle.tree_form.proofs.Classified.{sign_code, code, end_of, value_in}
use Rattle.tree_form.proofs.Rests.{kind_of}

-- ---- what a token holds

abbrev pub sign_in : Lexeme → Sign
sign_in x = record { start = place_of x; end = end_of x }

abbrev letters_in : Lexeme → List ℕ
letters_in (sign kind s) = []
letters_in (word n) = n.letters
letters_in (numeral n) = []
letters_in (quoted l) = []
letters_in (stray s) = []
letters_in (finish p) = []

abbrev characters_in : Lexeme → List ℕ
characters_in (sign kind s) = []
characters_in (word n) = []
characters_in (numeral n) = []
characters_in (quoted l) = l.characters
characters_in (stray s) = []
characters_in (finish p) = []

abbrev pub name_in : Lexeme → Name
name_in x = record { start = place_of x; end = end_of x; letters = letters_in x }

abbrev pub number_in : Lexeme → Number
number_in x = record { start = place_of x; end = end_of x; value = value_in x }

abbrev pub literal_in : Lexeme → Literal
literal_in x = record { start = place_of x; end = end_of x; characters = characters_in x }

-- ---- reserved words

abbrev Reserved : List ℕ → ℕ → Type 0
Reserved name v =
    (eqb v 12 ≡ true → field_word false ≡ name) × (eqb v 9 ≡ true → var_word ≡ name) × (eqb v 10 ≡ true → eod_word ≡ name) × (eqb v 13 ≡ true → field_word true ≡ name)

impossible : {A : Type 0} → false ≡ true → A
impossible e = let z : ◌≡◌ {A = ℕ} 0 1 = cc in absurd (omega arith)

-- which number a word has
reserved : (name : List ℕ) → Reserved name (reserved_of name)
unfolding word_number
reserved name =
    picked (Reserved name) (is_same (115 ∷ 105 ∷ 122 ∷ 101 ∷ 100 ∷ []) name) (λ e. (impossible, impossible, impossible, impossible)) (λ e1.
    picked (Reserved name) (is_same (97 ∷ 108 ∷ 105 ∷ 103 ∷ 110 ∷ 101 ∷ 100 ∷ []) name) (λ e. (impossible, impossible, impossible, impossible)) (λ e2.
    picked (Reserved name) (is_same (114 ∷ 101 ∷ 118 ∷ 101 ∷ 114 ∷ 115 ∷ 101 ∷ 100 ∷ []) name) (λ e. (impossible, impossible, impossible, impossible)) (λ e3.
    picked (Reserved name) (is_same (111 ∷ 114 ∷ 100 ∷ 101 ∷ 114 ∷ 101 ∷ 100 ∷ []) name) (λ e. (impossible, impossible, impossible, impossible)) (λ e4.
    picked (Reserved name) (is_same (98 ∷ 121 ∷ 116 ∷ 101 ∷ 95 ∷ 111 ∷ 114 ∷ 100 ∷ 101 ∷ 114 ∷ []) name) (λ e. (impossible, impossible, impossible, impossible)) (λ e5.
    picked (Reserved name) (is_same (98 ∷ 111 ∷ 109 ∷ 95 ∷ 111 ∷ 114 ∷ 100 ∷ 101 ∷ 114 ∷ 101 ∷ 100 ∷ []) name) (λ e. (impossible, impossible, impossible, impossible)) (λ e6.
    picked (Reserved name) (is_same (112 ∷ 101 ∷ 101 ∷ 107 ∷ []) name) (λ e. (impossible, impossible, impossible, impossible)) (λ e7.
    picked (Reserved name) (is_same (111 ∷ 102 ∷ 102 ∷ 115 ∷ 101 ∷ 116 ∷ []) name) (λ e. (impossible, impossible, impossible, impossible)) (λ e8.
    picked (Reserved name) (is_same (118 ∷ 97 ∷ 114 ∷ []) name) (λ e. (impossible, (λ z. word_equal var_word name e), impossible, impossible)) (λ e9.
    picked (Reserved name) (is_same (101 ∷ 111 ∷ 100 ∷ []) name) (λ e. (impossible, impossible, (λ z. word_equal eod_word name e), impossible)) (λ e10.
    picked (Reserved name) (is_same (117 ∷ 110 ∷ 105 ∷ 99 ∷ 111 ∷ 100 ∷ 101 ∷ []) name) (λ e. (impossible, impossible, impossible, impossible)) (λ e11.
    picked (Reserved name) (is_same (117 ∷ 105 ∷ 110 ∷ 116 ∷ []) name) (λ e. ((λ z. word_equal (field_word false) name e), impossible, impossible, impossible)) (λ e12.
    picked (Reserved name) (is_same (115 ∷ 105 ∷ 110 ∷ 116 ∷ []) name) (λ e. (impossible, impossible, impossible, (λ z. word_equal (field_word true) name e))) (λ e13.
    picked (Reserved name) (is_same (102 ∷ 108 ∷ 111 ∷ 97 ∷ 116 ∷ []) name) (λ e. (impossible, impossible, impossible, impossible)) (λ e14.
    picked (Reserved name) (is_same (105 ∷ 110 ∷ 102 ∷ []) name) (λ e. (impossible, impossible, impossible, impossible)) (λ e15.
    picked (Reserved name) (is_same (110 ∷ 97 ∷ 110 ∷ []) name) (λ e. (impossible, impossible, impossible, impossible)) (λ e16.
    picked (Reserved name) (is_same (110 ∷ 122 ∷ 101 ∷ 114 ∷ 111 ∷ []) name) (λ e. (impossible, impossible, impossible, impossible)) (λ e17.
    picked (Reserved name) (is_same (111 ∷ 114 ∷ 100 ∷ 101 ∷ 114 ∷ 105 ∷ 110 ∷ 103 ∷ []) name) (λ e. (impossible, impossible, impossible, impossible)) (λ e18.
    picked (Reserved name) (is_same (117 ∷ 110 ∷ 105 ∷ 99 ∷ 111 ∷ 100 ∷ 101 ∷ 95 ∷ 99 ∷ 97 ∷ 116 ∷ 101 ∷ 103 ∷ 111 ∷ 114 ∷ 105 ∷ 101 ∷ 115 ∷ []) name) (λ e. (impossible, impossible, impossible, impossible)) (λ e19.
    picked (Reserved name) (is_same (109 ∷ 115 ∷ 98 ∷ []) name) (λ e. (impossible, impossible, impossible, impossible)) (λ e20.
    picked (Reserved name) (is_same (108 ∷ 115 ∷ 98 ∷ []) name) (λ e. (impossible, impossible, impossible, impossible)) (λ e21. (impossible, impossible, impossible, impossible))))))))))))))))))))))

-- the word is `sint`
abbrev pub signed_in : Lexeme → Bool
signed_in x = is_same (field_word true) (letters_in x)

-- ---- what a token is, by its code

-- not `eod`, by its number and by its letters
not_eod : (name : List ℕ) → eqb (reserved_of name) 10 ≡ false → is_same eod_word name ≡ false
unfolding word_number starts
not_eod name f =
    ⊎_elim (λ (z : is_same eod_word name ≡ true). impossible (sym f ∙ ap (λ (l : List ℕ). eqb (reserved_of l) 10) (sym (word_equal eod_word name z)))) (λ z. z)
    (which (is_same eod_word name))

-- a name's code, and what it says
word_codes : (n : Name) (next : Bool) (P : ℕ → Type 0) → (is_same eod_word n.letters ≡ false → P 1) → ((signed : Bool) → field_word signed ≡ n.letters → P 6) → (eod_word ≡ n.letters → P 7) → (var_word ≡ n.letters → P 8) → P (code (word n) next)
word_codes n next P a b c d =
    picked P (eqb r 12 || eqb r 13) (λ e. picked P next (λ z. ⊎_elim (λ f. b false ((reserved n.letters).0 f)) (λ f. b true ((reserved n.letters).3 f)) (either_cases (eqb r 12) (eqb r 13) e))
    (λ z. a (not_eod n.letters (⊎_elim (λ f. apart 12 f refl) (λ f. apart 13 f refl) (either_cases (eqb r 12) (eqb r 13) e)))))
    (λ e₁. picked P (eqb r 9) (λ e. picked P next (λ z. d ((reserved n.letters).1 e)) (λ z. a (not_eod n.letters (apart 9 e refl))))
    (λ e₂. picked P (eqb r 10) (λ e. c ((reserved n.letters).2 e)) (λ e₃. a (not_eod n.letters e₃))))
  where
    r : ℕ
    r = reserved_of n.letters

    apart : (k : ℕ) → eqb (reserved_of n.letters) k ≡ true → eqb k 10 ≡ false → eqb (reserved_of n.letters) 10 ≡ false
    apart k e f = subst (λ (v : ℕ). eqb v 10 ≡ false) (sym (eqb-true (reserved_of n.letters) k e)) f

-- a sign can stand nowhere, or it is the one of its code
kinds : (kind : Kind) → (sign_code kind ≡ 4) ⊎ ((10 ≤ sign_code kind) × (kind_of (sign_code kind) ≡ kind))
kinds Kind.Name = inl refl
kinds Kind.Number = inl refl
kinds Kind.Literal = inl refl
kinds Kind.Fault = inl refl
kinds Kind.End = inl refl
kinds Kind.Equal = inr (omega arith, refl)
kinds Kind.Semicolon = inr (omega arith, refl)
kinds Kind.Bar = inr (omega arith, refl)
kinds Kind.Ampersand = inr (omega arith, refl)
kinds Kind.OpenParen = inr (omega arith, refl)
kinds Kind.CloseParen = inr (omega arith, refl)
kinds Kind.OpenBracket = inr (omega arith, refl)
kinds Kind.CloseBracket = inr (omega arith, refl)
kinds Kind.OpenBrace = inr (omega arith, refl)
kinds Kind.CloseBrace = inr (omega arith, refl)
kinds Kind.Question = inr (omega arith, refl)
kinds Kind.Star = inr (omega arith, refl)
kinds Kind.Plus = inr (omega arith, refl)
kinds Kind.Minus = inr (omega arith, refl)
kinds Kind.Tilde = inr (omega arith, refl)
kinds Kind.Bang = inr (omega arith, refl)
kinds Kind.Comma = inr (omega arith, refl)
kinds Kind.Colon = inr (omega arith, refl)
kinds Kind.Less = inr (omega arith, refl)
kinds Kind.Greater = inr (omega arith, refl)
kinds Kind.Unequal = inr (omega arith, refl)
kinds Kind.AtMost = inr (omega arith, refl)
kinds Kind.AtLeast = inr (omega arith, refl)

-- what holds of each token with the codes that it may have holds of a token and its code
module _ (P : Lexeme → ℕ → Type 0) where
  pub told : ((x : Lexeme) → P x 4)
      → ((s : Sign) (c : ℕ) → 10 ≤ c → P (sign (kind_of c) s) c)
      → ((n : Name) → is_same eod_word n.letters ≡ false → P (word n) 1)
      → ((n : Name) (signed : Bool) → field_word signed ≡ n.letters → P (word n) 6)
      → ((n : Name) → eod_word ≡ n.letters → P (word n) 7)
      → ((n : Name) → var_word ≡ n.letters → P (word n) 8)
      → ((n : Number) → P (numeral n) 2)
      → ((l : Literal) → P (quoted l) 3)
      → ((l : Literal) → Single l → P (quoted l) 9)
      → ((p : ℕ) → P (finish p) 5)
      → (x : Lexeme) (next : Bool) (c : ℕ) → code x next ≡ c → P x c
  told stands signs w₁ w₆ w₇ w₈ nums lits ones ends x next c e = subst (P x) e (by x)
    where
      by : (x : Lexeme) → P x (code x next)
      by (sign kind s) =
          ⊎_elim (λ z. subst (P (sign kind s)) (sym z) (stands (sign kind s)))
          (λ z. subst (λ (k : Kind). P (sign k s) (sign_code kind)) z.1 (signs s (sign_code kind) z.0)) (kinds kind)
      by (word n) = word_codes n next (P (word n)) (w₁ n) (w₆ n) (w₇ n) (w₈ n)
      by (numeral n) = nums n
      by (quoted l) = picked (P (quoted l)) (eqb (length l.characters) 1) (λ e. ones l (eqb-true (length l.characters) 1 e)) (λ e. lits l)
      by (stray s) = stands (stray s)
      by (finish p) = ends p

-- no sign has a code below 10
high : {A : Type 0} (c k : ℕ) → 10 ≤ c → leb k 9 ≡ true → eqb c k ≡ true → A
high c k l f t = absurd (omega (arith, eqb-true c k t, leb-true k 9 f))

-- nor a name's
named : (c : ℕ) → name_like c ≡ true → c ≤ 9
named c t =
    ⊎_elim (λ (e : eqb c 1 ≡ true). omega (arith, eqb-true c 1 e))
    (λ (e : eqb c 1 ≡ false). let g : (leb 6 c && leb c 8) ≡ true = rw e at t in let h : c ≤ 8 = leb-true c 8 (both_second (leb 6 c) (leb c 8) g) in omega arith)
    (which (eqb c 1))

-- a word that has these letters
lettered : (n : Name) (l : List ℕ) → l ≡ n.letters → word n ≡ spelled_as l (sign_in (word n))
lettered n l e = ap (λ (l : List ℕ). word (record { start = n.start; end = n.end; letters = l })) (sym e)

-- which of the two words it is says the flag
its_flag : (n : Name) (signed : Bool) → field_word signed ≡ n.letters → is_same (field_word true) n.letters ≡ signed
unfolding starts
its_flag n true f = subst (λ (l : List ℕ). is_same (field_word true) l ≡ true) f refl
its_flag n false f = subst (λ (l : List ℕ). is_same (field_word true) l ≡ false) f refl

no_end : (signed : Bool) → is_same eod_word (field_word signed) ≡ false
unfolding starts
no_end true = refl
no_end false = refl

pub is_sign : (x : Lexeme) (next : Bool) (c : ℕ) → code x next ≡ c → leb 10 c ≡ true → x ≡ sign (kind_of c) (sign_in x)
is_sign = told (λ x c. leb 10 c ≡ true → x ≡ sign (kind_of c) (sign_in x)) (λ x. impossible) (λ s c l t. refl) (λ n f. impossible) (λ n s f. impossible) (λ n f. impossible) (λ n f. impossible) (λ n. impossible) (λ l. impossible) (λ l f. impossible) (λ p. impossible)

pub is_number : (x : Lexeme) (next : Bool) (c : ℕ) → code x next ≡ c → eqb c 2 ≡ true → x ≡ numeral (number_in x)
is_number = told (λ x c. eqb c 2 ≡ true → x ≡ numeral (number_in x)) (λ x. impossible) (λ s c l t. high c 2 l refl t) (λ n f. impossible) (λ n s f. impossible) (λ n f. impossible) (λ n f. impossible) (λ n t. refl) (λ l. impossible) (λ l f. impossible) (λ p. impossible)

pub is_end : (x : Lexeme) (next : Bool) (c : ℕ) → code x next ≡ c → eqb c 5 ≡ true → x ≡ finish (place_of x)
is_end = told (λ x c. eqb c 5 ≡ true → x ≡ finish (place_of x)) (λ x. impossible) (λ s c l t. high c 5 l refl t) (λ n f. impossible) (λ n s f. impossible) (λ n f. impossible) (λ n f. impossible) (λ n. impossible) (λ l. impossible) (λ l f. impossible) (λ p t. refl)

pub is_literal : (x : Lexeme) (next : Bool) (c : ℕ) → code x next ≡ c → eqb c 3 ≡ true → x ≡ quoted (literal_in x)
is_literal = told (λ x c. eqb c 3 ≡ true → x ≡ quoted (literal_in x)) (λ x. impossible) (λ s c l t. high c 3 l refl t) (λ n f. impossible) (λ n s f. impossible) (λ n f. impossible) (λ n f. impossible) (λ n. impossible) (λ l t. refl) (λ l f. impossible) (λ p. impossible)

pub is_character : (x : Lexeme) (next : Bool) (c : ℕ) → code x next ≡ c → eqb c 9 ≡ true → x ≡ quoted (literal_in x)
is_character = told (λ x c. eqb c 9 ≡ true → x ≡ quoted (literal_in x)) (λ x. impossible) (λ s c l t. high c 9 l refl t) (λ n f. impossible) (λ n s f. impossible) (λ n f. impossible) (λ n f. impossible) (λ n. impossible) (λ l. impossible) (λ l f t. refl) (λ p. impossible)

pub is_single : (x : Lexeme) (next : Bool) (c : ℕ) → code x next ≡ c → eqb c 9 ≡ true → Single (literal_in x)
is_single = told (λ x c. eqb c 9 ≡ true → Single (literal_in x)) (λ x. impossible) (λ s c l t. high c 9 l refl t) (λ n f. impossible) (λ n s f. impossible) (λ n f. impossible) (λ n f. impossible) (λ n. impossible) (λ l. impossible) (λ l f t. f) (λ p. impossible)

pub is_eod : (x : Lexeme) (next : Bool) (c : ℕ) → code x next ≡ c → eqb c 7 ≡ true → x ≡ spelled_as eod_word (sign_in x)
is_eod = told (λ x c. eqb c 7 ≡ true → x ≡ spelled_as eod_word (sign_in x)) (λ x. impossible) (λ s c l t. high c 7 l refl t) (λ n f. impossible) (λ n s f. impossible) (λ n f t. lettered n eod_word f) (λ n f. impossible) (λ n. impossible) (λ l. impossible) (λ l f. impossible) (λ p. impossible)

pub is_uint : (x : Lexeme) (next : Bool) (c : ℕ) → code x next ≡ c → eqb c 6 ≡ true → x ≡ spelled_as (field_word (signed_in x)) (sign_in x)
is_uint = told (λ x c. eqb c 6 ≡ true → x ≡ spelled_as (field_word (signed_in x)) (sign_in x)) (λ x. impossible) (λ s c l t. high c 6 l refl t) (λ n f. impossible) (λ n s f t. lettered n (field_word s) f ∙ ap (λ (b : Bool). spelled_as (field_word b) (sign_in (word n))) (sym (its_flag n s f))) (λ n f. impossible) (λ n f. impossible) (λ n. impossible) (λ l. impossible) (λ l f. impossible) (λ p. impossible)

pub is_var : (x : Lexeme) (next : Bool) (c : ℕ) → code x next ≡ c → eqb c 8 ≡ true → x ≡ spelled_as var_word (sign_in x)
is_var = told (λ x c. eqb c 8 ≡ true → x ≡ spelled_as var_word (sign_in x)) (λ x. impossible) (λ s c l t. high c 8 l refl t) (λ n f. impossible) (λ n s f. impossible) (λ n f. impossible) (λ n f t. lettered n var_word f) (λ n. impossible) (λ l. impossible) (λ l f. impossible) (λ p. impossible)

pub is_name : (x : Lexeme) (next : Bool) (c : ℕ) → code x next ≡ c → name_like c ≡ true → x ≡ word (name_in x)
is_name = told (λ x c. name_like c ≡ true → x ≡ word (name_in x)) (λ x. impossible) (λ s c l t. absurd (omega (arith, named c t))) (λ n f t. refl) (λ n s f t. refl) (λ n f t. refl) (λ n f t. refl) (λ n. impossible) (λ l. impossible) (λ l f. impossible) (λ p. impossible)

pub is_other : (x : Lexeme) (next : Bool) (c : ℕ) → code x next ≡ c → name_like c ≡ true → eqb c 7 ≡ false → is_same eod_word (name_in x).letters ≡ false
unfolding starts
is_other =
    told (λ x c. name_like c ≡ true → eqb c 7 ≡ false → is_same eod_word (name_in x).letters ≡ false) (λ x. impossible) (λ s c l t. absurd (omega (arith, named c t))) (λ n f t z. f)
    (λ n s f t z. subst (λ (l : List ℕ). is_same eod_word l ≡ false) f (no_end s)) (λ n f t z. impossible (sym z)) (λ n f t z. subst (λ (l : List ℕ). is_same eod_word l ≡ false) f refl) (λ n. impossible) (λ l. impossible) (λ l f. impossible) (λ p. impossible)

-- a name is `uint`, `sint` or `var` only where `(` follows
pub plain_name : (n : Name) → is_same eod_word n.letters ≡ false → code (word n) false ≡ 1
plain_name n f =
    picked (λ (v : ℕ). v ≡ 1) (eqb (reserved_of n.letters) 12 || eqb (reserved_of n.letters) 13) (λ e. refl)
    (λ e₁. picked (λ (v : ℕ). v ≡ 1) (eqb (reserved_of n.letters) 9) (λ e. refl)
    (λ e₂. picked (λ (v : ℕ). v ≡ 1) (eqb (reserved_of n.letters) 10)
    (λ e. impossible (sym f ∙ ap (is_same eod_word) (sym ((reserved n.letters).2 e)) ∙ word_self eod_word)) (λ e. refl)))

-- any name has one of four codes
pub word_has : (n : Name) (next : Bool) (P : (c : ℕ) → code (word n) next ≡ c → Type 0) → ((e : code (word n) next ≡ 1) → P 1 e) → ((e : code (word n) next ≡ 6) → P 6 e) → ((e : code (word n) next ≡ 7) → P 7 e) → ((e : code (word n) next ≡ 8) → P 8 e) → (c : ℕ) (e : code (word n) next ≡ c) → P c e
word_has n next P a b d f c z = word_codes n next (λ (v : ℕ). v ≡ c → P c z) (λ y. by 1 a) (λ s y. by 6 b) (λ y. by 7 d) (λ y. by 8 f) z
  where
    by : (k : ℕ) → ((e : code (word n) next ≡ k) → P k e) → k ≡ c → P c z
    by k h y = subst (λ (v : ℕ). (e : code (word n) next ≡ v) → P v e) y h z
