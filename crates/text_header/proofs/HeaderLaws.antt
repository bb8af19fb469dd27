-- A header line is right exactly where it has the parts that document 01 names.
-- Assumes nothing.
use Prim.Native.Nat.{ℕ, suc, ◌+◌, ◌-◌, ◌≤◌, ◌<◌}
use mathlib.Core.Path.{◌≡◌, refl, sym, ap, ap₂, subst, ◌∙◌}
use mathlib.Core.Logic.{⊎_elim}
use mathlib.Core.Bool.{Bool, true, false, not, ◌&&◌}
use mathlib.Core.List.{List, [], ◌∷◌, ◌++◌, append_assoc}
use native.Mathlib.Omega.{arith}
use borrow.Author.Tests.{eq-eqb, eqb-true, le-leb, leb-true, lt-ltb, ltb-true}
use lib.Dec.{leb, ltb, eqb}
use lib.ListN.{length, get_or, take, drop, length-append, length-drop}
use lib.Seq.{split_at, take-length, length-take-le}
use Rattle.basis.proofs.Booleans.{both_first, both_second, which, both_pass, not_false}
use Rattle.text_header.specs.Bytes.{is_blank, in_class}
use Rattle.text_header.specs.Spans.{span_end}
use Rattle.text_header.specs.Header.{is_header_line}
use Rattle.text_header.specs.Split.{every, HeaderLine}
use Rattle.text_header.specs.declared.Class.{Class}
use Rattle.text_header.proofs.Runs.{span_on, span_off, span_grows}

pub never : {A : Type 0} → false ≡ true → A
never e = let z : ◌≡◌ {A = ℕ} 0 1 = cc in absurd (omega arith)

-- ---- each byte of a class

every_append : (class : Class) (xs ys : List ℕ) → every class xs ≡ true → every class ys ≡ true → every class (xs ++ ys) ≡ true
unfolding every
every_append class [] ys e f = f
every_append class (x ∷ xs) ys e f =
    both_pass (both_first (in_class class x) (every class xs) e) (every_append class xs ys (both_second (in_class class x) (every class xs) e) f)

every_front : (class : Class) (xs ys : List ℕ) → every class (xs ++ ys) ≡ true → every class xs ≡ true
unfolding every
every_front class [] ys e = refl
every_front class (x ∷ xs) ys e =
    both_pass (both_first (in_class class x) (every class (xs ++ ys)) e) (every_front class xs ys (both_second (in_class class x) (every class (xs ++ ys)) e))

every_back : (class : Class) (xs ys : List ℕ) → every class (xs ++ ys) ≡ true → every class ys ≡ true
unfolding every
every_back class [] ys e = e
every_back class (x ∷ xs) ys e = every_back class xs ys (both_second (in_class class x) (every class (xs ++ ys)) e)

every_rest : (class : Class) (x : ℕ) (xs : List ℕ) → every class (x ∷ xs) ≡ true → every class xs ≡ true
unfolding every
every_rest class x xs e = both_second (in_class class x) (every class xs) e

-- a blank is a byte of a header, and no `=`
blank_other : (b : ℕ) → is_blank b ≡ true → (in_class Class.Header b ≡ true) × (in_class (Class.Except 61) b ≡ true)
blank_other b e =
    ⊎_elim (λ (t : eqb b 32 ≡ true). rw (eqb-true b 32 t) (refl, refl))
    (λ (t : eqb b 32 ≡ false). let n : eqb b 9 ≡ true = rw t at e in rw (eqb-true b 9 n) (refl, refl))
    (which (eqb b 32))

blanks_other : (bs : List ℕ) → every Class.Blank bs ≡ true → (every Class.Header bs ≡ true) × (every (Class.Except 61) bs ≡ true)
unfolding every
blanks_other [] e = (refl, refl)
blanks_other (b ∷ bs) e =
    let o = blank_other b (both_first (is_blank b) (every Class.Blank bs) e)
    in let r = blanks_other bs (both_second (is_blank b) (every Class.Blank bs) e)
    in (both_pass o.0 r.0, both_pass o.1 r.1)

-- ---- a run and what stops it

pub run_every : (class : Class) (i : ℕ) (bs : List ℕ) → every class (take (span_end class i bs - i) bs) ≡ true
unfolding every span_end
run_every class i [] = let z : i - i ≡ 0 = omega arith in rw z
run_every class i (b ∷ bs) =
    ⊎_elim
    (λ (e : in_class class b ≡ true).
    let g : i + 1 ≤ span_end class (i + 1) bs = span_grows class (i + 1) bs
    in let n : span_end class i (b ∷ bs) - i ≡ suc (span_end class (i + 1) bs - (i + 1)) = omega (arith, span_on class i b bs e)
    in rw n (both_pass e (run_every class (i + 1) bs)))
    (λ (e : in_class class b ≡ false). let n : span_end class i (b ∷ bs) - i ≡ 0 = omega (arith, span_off class i b bs e) in rw n)
    (which (in_class class b))

run_stops : (class : Class) (i : ℕ) (bs : List ℕ) → span_end class i bs < i + length bs → in_class class (get_or bs (span_end class i bs - i) 0) ≡ false
run_stops class i [] h = let g : i ≤ span_end class i [] = span_grows class i [] in absurd (omega arith)
run_stops class i (b ∷ bs) h =
    ⊎_elim
    (λ (e : in_class class b ≡ true).
    let g : i + 1 ≤ span_end class (i + 1) bs = span_grows class (i + 1) bs
    in let s : span_end class i (b ∷ bs) ≡ span_end class (i + 1) bs = span_on class i b bs e
    in let n : span_end class i (b ∷ bs) - i ≡ suc (span_end class (i + 1) bs - (i + 1)) = omega arith
    in rw n (run_stops class (i + 1) bs (omega arith)))
    (λ (e : in_class class b ≡ false). let n : span_end class i (b ∷ bs) - i ≡ 0 = omega (arith, span_off class i b bs e) in rw n e)
    (which (in_class class b))

-- the other way: a run of bytes of a class, and one that is not
pub run_over : (class : Class) (i : ℕ) (xs : List ℕ) (y : ℕ) (ys : List ℕ) → every class xs ≡ true → in_class class y ≡ false → span_end class i (xs ++ (y ∷ ys)) ≡ i + length xs
unfolding every
run_over class i [] y ys e f = span_off class i y ys f ∙ omega arith
run_over class i (x ∷ xs) y ys e f =
    let r : span_end class (i + 1) (xs ++ (y ∷ ys)) ≡ i + 1 + length xs = run_over class (i + 1) xs y ys (both_second (in_class class x) (every class xs) e) f
    in span_on class i x (xs ++ (y ∷ ys)) (both_first (in_class class x) (every class xs) e) ∙ omega arith

run_all : (class : Class) (i : ℕ) (xs : List ℕ) → every class xs ≡ true → span_end class i xs ≡ i + length xs
unfolding every span_end
run_all class i [] e = omega arith
run_all class i (x ∷ xs) e =
    let r : span_end class (i + 1) xs ≡ i + 1 + length xs = run_all class (i + 1) xs (both_second (in_class class x) (every class xs) e)
    in span_on class i x xs (both_first (in_class class x) (every class xs) e) ∙ omega arith

-- ---- a right line has the parts

module _ (a b : ℕ) (rest : List ℕ) where
  equals : ℕ
  equals = span_end (Class.Except 61) 2 rest

  every_byte : eqb (span_end Class.Header 0 (a ∷ b ∷ rest)) (length (a ∷ b ∷ rest)) ≡ true → every Class.Header rest ≡ true
  every_byte h =
      let n : span_end Class.Header 0 (a ∷ b ∷ rest) - 0 ≡ length (a ∷ b ∷ rest) = omega (arith, eqb-true (span_end Class.Header 0 (a ∷ b ∷ rest)) (length (a ∷ b ∷ rest)) h)
      in let e : every Class.Header (take (length (a ∷ b ∷ rest)) (a ∷ b ∷ rest)) ≡ true = subst (λ (k : ℕ). every Class.Header (take k (a ∷ b ∷ rest)) ≡ true) n (run_every Class.Header 0 (a ∷ b ∷ rest))
      in let w : every Class.Header (a ∷ b ∷ rest) ≡ true = subst (λ (l : List ℕ). every Class.Header l ≡ true) (take-length (a ∷ b ∷ rest)) e
      in every_rest Class.Header b rest (every_rest Class.Header a (b ∷ rest) w)

  module _ (low : 3 ≤ equals) (high : equals + 1 < length (a ∷ b ∷ rest)) where
    is_equals : get_or rest (equals - 2) 0 ≡ 61
    unfolding equals
    is_equals =
        let s : not (eqb (get_or rest (equals - 2) 0) 61) ≡ false = run_stops (Class.Except 61) 2 rest (omega arith)
        in eqb-true (get_or rest (equals - 2) 0) 61 (not_false (eqb (get_or rest (equals - 2) 0) 61) s)

    cut : rest ≡ take (equals - 2) rest ++ (61 ∷ drop (suc (equals - 2)) rest)
    cut = split_at rest (equals - 2) 0 (omega arith) ∙ ap (λ (x : ℕ). take (equals - 2) rest ++ (x ∷ drop (suc (equals - 2)) rest)) is_equals

    line_of : a ≡ 45 → is_blank b ≡ true → every Class.Header rest ≡ true → HeaderLine (a ∷ b ∷ rest)
    unfolding equals every
    line_of e f h =
        let w : every Class.Header (take (equals - 2) rest ++ (61 ∷ drop (suc (equals - 2)) rest)) ≡ true = subst (λ (l : List ℕ). every Class.Header l ≡ true) cut h
        in record {
          blanks = b ∷ [];
          name = take (equals - 2) rest;
          value = drop (suc (equals - 2)) rest;
          parts = ap₂ (λ (x : ℕ) (l : List ℕ). x ∷ b ∷ l) e cut;
          some_blanks = omega arith;
          blank = both_pass f refl;
          some_name = omega (arith, length-take-le (equals - 2) rest (omega arith));
          name_bytes = every_front Class.Header (take (equals - 2) rest) (61 ∷ drop (suc (equals - 2)) rest) w;
          without_equals = run_every (Class.Except 61) 2 rest;
          some_value = omega (arith, length-drop (suc (equals - 2)) rest);
          value_bytes = every_rest Class.Header 61 (drop (suc (equals - 2)) rest) (every_back Class.Header (take (equals - 2) rest) (61 ∷ drop (suc (equals - 2)) rest) w);
        }

pub split : (line : List ℕ) → is_header_line line ≡ true → HeaderLine line
unfolding is_header_line equals
split [] h = never h
split (a ∷ []) h = never (both_second (eqb a 45) false (both_first (eqb a 45 && false) ((leb 3 (span_end (Class.Except 61) 2 []) && ltb (span_end (Class.Except 61) 2 [] + 1) 1) && eqb (span_end Class.Header 0 (a ∷ [])) 1) h))
split (a ∷ b ∷ rest) h =
    let P : ℕ = span_end (Class.Except 61) 2 rest
    in let n : ℕ = length (a ∷ b ∷ rest)
    in let H : Bool = eqb (span_end Class.Header 0 (a ∷ b ∷ rest)) n
    in let LM : Bool = leb 3 P && ltb (P + 1) n
    in let front : (eqb a 45 && is_blank b) ≡ true = both_first (eqb a 45 && is_blank b) (LM && H) h
    in let back : (LM && H) ≡ true = both_second (eqb a 45 && is_blank b) (LM && H) h
    in let lm : LM ≡ true = both_first LM H back
    in line_of a b rest (leb-true 3 P (both_first (leb 3 P) (ltb (P + 1) n) lm)) (ltb-true (P + 1) n (both_second (leb 3 P) (ltb (P + 1) n) lm))
    (eqb-true a 45 (both_first (eqb a 45) (is_blank b) front)) (both_second (eqb a 45) (is_blank b) front) (every_byte a b rest (both_second LM H back))

-- ---- a line of the parts is right

joined_parts : (blanks name value : List ℕ) → 0 < length blanks → every Class.Blank blanks ≡ true → 0 < length name → every Class.Header name ≡ true
    → every (Class.Except 61) name ≡ true → 0 < length value → every Class.Header value ≡ true → is_header_line (45 ∷ (blanks ++ (name ++ (61 ∷ value)))) ≡ true
unfolding is_header_line every
joined_parts [] name value s e n h w v k = absurd (omega arith)
joined_parts (b ∷ more) name value s e n h w v k =
    let m : every Class.Blank more ≡ true = both_second (is_blank b) (every Class.Blank more) e
    in let f : is_blank b ≡ true = both_first (is_blank b) (every Class.Blank more) e
    in let tail : List ℕ = more ++ (name ++ (61 ∷ value))
    in let p : span_end (Class.Except 61) 2 tail ≡ 2 + length (more ++ name) = ap (span_end (Class.Except 61) 2) (sym (append_assoc more name (61 ∷ value))) ∙ run_over (Class.Except 61) 2 (more ++ name) 61 value (every_append (Class.Except 61) more name (blanks_other more m).1 w) refl
    in let c : length (more ++ name) ≡ length more + length name = length-append more name
    in let l : length tail ≡ length more + length (name ++ (61 ∷ value)) = length-append more (name ++ (61 ∷ value))
    in let r : length (name ++ (61 ∷ value)) ≡ length name + suc (length value) = length-append name (61 ∷ value)
    in let u : every Class.Header tail ≡ true = every_append Class.Header more (name ++ (61 ∷ value)) (blanks_other more m).0 (every_append Class.Header name (61 ∷ value) h k)
    in let t : every Class.Header (45 ∷ b ∷ tail) ≡ true = both_pass (blank_other b f).0 u
    in let z : span_end Class.Header 0 (45 ∷ b ∷ tail) ≡ length (45 ∷ b ∷ tail) = run_all Class.Header 0 (45 ∷ b ∷ tail) t ∙ omega arith
    in both_pass f
    (both_pass (both_pass (le-leb 3 (span_end (Class.Except 61) 2 tail) (omega arith)) (lt-ltb (span_end (Class.Except 61) 2 tail + 1) (length (45 ∷ b ∷ tail)) (omega arith)))
    (eq-eqb (span_end Class.Header 0 (45 ∷ b ∷ tail)) (length (45 ∷ b ∷ tail)) z))

pub joined : (line : List ℕ) → HeaderLine line → is_header_line line ≡ true
joined line x =
    subst (λ (l : List ℕ). is_header_line l ≡ true) (sym x.parts)
    (joined_parts x.blanks x.name x.value x.some_blanks x.blank x.some_name x.name_bytes x.without_equals x.some_value x.value_bytes)
