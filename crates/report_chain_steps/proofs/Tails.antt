-- What is known of the entries that were read, with one entry more; where a list ends, and what all of it is.
-- Assumes nothing.
use Prim.Native.Nat.{ℕ, zero, suc, ◌+◌, ◌-◌, ◌*◌, ◌^◌, ◌≤◌, ◌<◌, min}
use mathlib.Core.Path.{◌≡◌, refl, sym, ap, ap₂, ◌∙◌, subst}
use mathlib.Core.Bool.{true}
use mathlib.Core.List.{List, [], ◌∷◌, ◌++◌, append-nil}
use native.Mathlib.Omega.{arith}
use native.Mathlib.Numerals.{add-one}
use lib.ListN.{length, get_or, take, length-take}
use lib.Seq.{take_all, take-append-le, take-append-add}
use Rattle.basis.specs.Bits.{Bits, append_digits, value}
use Rattle.basis.specs.Limits.{max_constructs}
use Rattle.basis.specs.Lookahead.{lookahead, number}
use Rattle.basis.proofs.Numbers.{number_append, number_value}
use Rattle.table_layout.specs.Held.{held, opening}
use Rattle.table_layout.specs.Places.{rule_word}
use Rattle.table_first_follow.proofs.HeldLaws.{node_opening}
use Rattle.report_chain_meaning.specs.Chains.{Step, takes, leaves, frame_end, Rest, after, Spells, listed, Lists}
use Rattle.report_chains.specs.Strings.{width_of, string}
use Rattle.report_chain_meaning.proofs.Finding.{FoundAfter}
use Rattle.report_chain_steps.specs.Replayed.{stack, rest_of, Longer, Made, Moved, Read, Tail, FirstOf, FollowOf, Pattern, pattern, BeginsWith, begins_with}
use Rattle.report_chain_steps.specs.Told.{steps_of, told}
use Rattle.report_chain_steps.specs.declared.Place.{Place}
use Rattle.report_chain_steps.proofs.Widths.{string_length, string_number, number_string, width_number, width_small, width_some, not_cut}
use Rattle.report_chain_steps.proofs.Readiness.{goes_to_end}
use Rattle.report_chain_steps.proofs.Stacks.{top_is}

-- what comes after a construct, by its number
pub rest_after : (n : ℕ) → 0 < n → rest_of n ≡ after (n - 1)
rest_after zero h = absurd (omega arith)
rest_after (suc n) h = let e : n ≡ suc n - 1 = omega arith in ap after e

-- ---- listed steps

listed_takes : (n : ℕ) → 0 < n → (i : ℕ) (bits : Bits) (l : List Step) → listed n (takes i bits ∷ l) ≡ takes i (take n bits) ∷ listed (n - length bits) l
unfolding listed
listed_takes zero h i bits l = absurd (omega arith)
listed_takes (suc n) h i bits l = refl

listed_none : (l : List Step) → listed 0 l ≡ []
unfolding listed
listed_none [] = refl
listed_none (Step.takes i bits ∷ l) = refl
listed_none (Step.enters i ∷ l) = refl
listed_none (Step.repeats i k ∷ l) = refl
listed_none (Step.ends i ∷ l) = refl
listed_none (Step.leaves i ∷ l) = refl
listed_none (Step.goes_on i k ∷ l) = refl
listed_none (Step.frame_end ∷ l) = refl
listed_none (Step.passes_over i ∷ l) = refl

longer_by : {ws is : List ℕ} {r : Rest} {x : Bits} {more l : List Step} (n : ℕ) → 0 < n → (q : Longer ws is r x more l) → listed n q.chain ≡ more ++ listed n l
longer_by zero h q = absurd (omega arith)
longer_by (suc n) h q = q.longer n

-- ---- one entry more

module _ (ws items : List ℕ) (at : Place) (shown : List Step) (t : Tail ws items at shown) where
  -- a chain that is longer by an entry
  entered : (now-items : List ℕ) (r : Place) (more : List Step) → r.left ≡ at.left → r.seen ≡ at.seen
      → Longer ws (stack ws now-items r.depth) (rest_of r.rest) t.bits more t.chain → Tail ws now-items r (more ++ shown)
  entered now-items r more e f q = record {
    bits = t.bits;
    chain = q.chain;
    spells = q.spells;
    lists = ap (λ (n : ℕ). listed n q.chain) e ∙ longer_by at.left t.some q ∙ ap (λ (l : List Step). more ++ l) t.lists;
    some = subst (λ (n : ℕ). 0 < n) (sym e) t.some;
    window = f ∙ t.window ∙ ap (λ (n : ℕ). number (take n t.bits)) (sym e);
  }

  pub tail_made : (now-items : List ℕ) (r : Place) (js : List ℕ) (i : ℕ) (more : List Step) → r.rest ≡ at.rest → r.left ≡ at.left → r.seen ≡ at.seen
      → Made ws (stack ws items at.depth) js i more → stack ws now-items r.depth ≡ i ∷ js → Tail ws now-items r (more ++ shown)
  tail_made now-items r js i more d e f m s =
      entered now-items r more e f
      (subst (λ (is : List ℕ). Longer ws is (rest_of r.rest) t.bits more t.chain) (sym s)
      (subst (λ (k : ℕ). Longer ws (i ∷ js) (rest_of k) t.bits more t.chain) (sym d) (m (rest_of at.rest) t.bits t.chain t.spells)))

  pub tail_moved : (r : Place) (more : List Step) → r.depth ≡ 0 → r.left ≡ at.left → r.seen ≡ at.seen
      → Moved ws (stack ws items at.depth) (rest_of at.rest) (rest_of r.rest) more → Tail ws items r (more ++ shown)
  unfolding stack
  tail_moved r more d e f m =
      entered items r more e f
      (subst (λ (k : ℕ). Longer ws (stack ws items k) (rest_of r.rest) t.bits more t.chain) (sym d) (m t.bits t.chain t.spells))

  -- a field that has all its bits
  module _ (now-items : List ℕ) (r : Place) (i v : ℕ) (p : 0 < v) (h : v < 256) (b : at.left ≤ 8) (e : r.rest ≡ at.rest) (f : r.left ≡ at.left + width_of v)
      (g : r.seen ≡ (v - 1) * 2 ^ width_of at.seen + at.seen) (s : stack ws now-items r.depth ≡ i ∷ stack ws items at.depth) where
    spelt : Bits
    spelt = string v

    size : length (string v) ≡ width_of v
    size = string_length v

    small : length (string v) < 8
    small = let a : width_of v < 8 = width_small v h in omega (arith, size)

    window_of : r.seen ≡ number (take r.left (string v ++ t.bits))
    window_of =
        let tail : Bits = take at.left t.bits in
        let l : length tail ≤ 8 = omega (arith, length-take at.left t.bits) in
        let w : width_of at.seen ≡ length tail = ap width_of t.window ∙ width_number tail l in
        let y : r.left ≡ length (string v) + at.left = omega (arith, f, size) in
        let q : take r.left (string v ++ t.bits) ≡ string v ++ tail = ap (λ (k : ℕ). take k (string v ++ t.bits)) y ∙ take-append-add (string v) t.bits at.left in
        let n : number (string v ++ tail) ≡ number (string v) * 2 ^ length tail + value tail = number_append (string v) tail in
        let m : number tail ≡ 2 ^ length tail + value tail = number_value tail in
        let c : number (string v) ≡ v = string_number v p (omega arith) in
        let u : ℕ = v - 1 in
        let d : v ≡ u + 1 = omega arith in
        let power : ℕ = 2 ^ length tail in
        let x : v * power ≡ u * power + power = ap (λ (k : ℕ). k * power) d ∙ omega arith in
        g ∙ ap (λ (k : ℕ). u * 2 ^ k + at.seen) w ∙ ap (λ (k : ℕ). u * power + k) (t.window ∙ m)
        ∙ sym (ap number q ∙ n ∙ ap (λ (k : ℕ). k * power + value tail) c ∙ ap (λ (k : ℕ). k + value tail) x ∙ omega arith)

    lists_of : listed r.left (takes i (string v) ∷ t.chain) ≡ takes i (string v) ∷ shown
    lists_of =
        let n : r.left ≡ at.left + length (string v) = f ∙ omega (arith, size) in
        let a : r.left - length (string v) ≡ at.left = omega (arith, n) in
        let c : 0 < r.left = omega (arith, f, t.some) in
        listed_takes r.left c i (string v) t.chain
        ∙ ap (λ (k : Bits). takes i k ∷ listed (r.left - length (string v)) t.chain) (take_all r.left (string v) (omega (arith, n)))
        ∙ ap (λ (k : ℕ). takes i (string v) ∷ listed k t.chain) a ∙ ap (λ (l : List Step). takes i (string v) ∷ l) t.lists

    pub tail_field : Pattern ws i (string v) → Tail ws now-items r (takes i (string v) ∷ shown)
    tail_field (pattern {w = w} {static = static} bits q l d c) =
        let same : bits ≡ string v = not_cut (string v) bits c small in
        record {
          bits = string v ++ t.bits;
          chain = takes i (string v) ∷ t.chain;
          spells =
              subst (λ (is : List ℕ). Spells (held ws) is (rest_of r.rest) (string v ++ t.bits) (takes i (string v) ∷ t.chain)) (sym s)
              (subst (λ (k : ℕ). Spells (held ws) (i ∷ stack ws items at.depth) (rest_of k) (string v ++ t.bits) (takes i (string v) ∷ t.chain)) (sym e)
              (Spells.by_field (string v) q (subst (λ (x : Bits). length x ≡ w x) same l) (subst (λ (x : Bits). static x ≡ true) same d) t.spells refl));
          lists = lists_of;
          some = omega (arith, f, t.some);
          window = window_of;
        }

-- ---- where a list ends

module _ (ws items now-items : List ℕ) (r : Place) (depth i j v : ℕ) (p : 1 < v) (h : v < 512) (e : r.left ≡ width_of v) (g : r.seen ≡ v) (d : 0 < r.rest) (c : j ≡ r.rest - 1)
    (s : stack ws now-items r.depth ≡ i ∷ stack ws items depth) where
  with_rest : (z : Bits) → FoundAfter (held ws) (stack ws items depth) j z → BeginsWith ws i (string v) → Tail ws now-items r (takes i (string v) ∷ [])
  with_rest z q (begins_with bits n l t b) =
      let m : length (string v) ≡ width_of v = string_length v in
      let k : r.left ≡ length (string v) = e ∙ sym m in
      let few : length (string v) ≡ min (length (string v)) (length bits) = sym (ap length b) ∙ length-take (length (string v)) bits in
      let some : 0 < r.left = subst (λ (x : ℕ). 0 < x) (sym e) (width_some v p h) in
      let cut : take r.left bits ≡ string v = ap (λ (x : ℕ). take x bits) k ∙ b in
      let none : r.left - length bits ≡ 0 = omega (arith, k, few) in
      record {
        bits = bits ++ q.bits;
        chain = takes i bits ∷ q.steps;
        spells =
            subst (λ (is : List ℕ). Spells (held ws) is (rest_of r.rest) (bits ++ q.bits) (takes i bits ∷ q.steps)) (sym s)
            (subst (λ (x : Rest). Spells (held ws) (i ∷ stack ws items depth) x (bits ++ q.bits) (takes i bits ∷ q.steps)) (sym (rest_after r.rest d ∙ ap after (sym c)))
            (Spells.by_field bits n l t q.spells refl));
        lists =
            listed_takes r.left some i bits q.steps ∙ ap (λ (x : Bits). takes i x ∷ listed (r.left - length bits) q.steps) cut
            ∙ ap (λ (x : ℕ). takes i (string v) ∷ listed x q.steps) none ∙ ap (λ (x : List Step). takes i (string v) ∷ x) (listed_none q.steps);
        some = some;
        window =
            g ∙ sym (ap number (take-append-le r.left bits q.bits (omega (arith, k, few)) ∙ cut) ∙ string_number v (omega arith) h);
      }

  pub tail_last : FirstOf ws (stack ws items depth) → FollowOf ws j → BeginsWith ws i (string v) → Tail ws now-items r (takes i (string v) ∷ [])
  tail_last f w b = let q = goes_to_end ws (stack ws items depth) j f w in with_rest q.0 q.1 b

-- after the start rule comes the frame's end
pub tail_end : (ws items : List ℕ) (r : Place) (body window : ℕ) → window < 256 → body ≡ rule_word ws 0 0 → r.depth ≡ 0 → r.rest ≡ body + 1 → r.left ≡ 8 - width_of window → r.seen ≡ 1
    → Tail ws items r (leaves opening ∷ frame_end ∷ [])
unfolding stack held listed append_digits
tail_end ws items r body window h b d e f g =
    let some : 0 < r.left = let a : width_of window < 8 = width_small window h in omega (arith, f) in
    record {
      bits = [];
      chain = leaves opening ∷ frame_end ∷ [];
      spells =
          subst (λ (k : ℕ). Spells (held ws) (stack ws items k) (rest_of r.rest) [] (leaves opening ∷ frame_end ∷ [])) (sym d)
          (subst (λ (x : Rest). Spells (held ws) [] x [] (leaves opening ∷ frame_end ∷ [])) (sym (ap rest_of (e ∙ add-one body) ∙ ap after b))
          (Spells.after_rule (node_opening ws opening refl) (Spells.at_end refl)));
      lists = all r.left some;
      some = some;
      window = g ∙ none r.left;
    }
  where
    all : (n : ℕ) → 0 < n → listed n (leaves opening ∷ frame_end ∷ []) ≡ leaves opening ∷ frame_end ∷ []
    all zero l = absurd (omega arith)
    all (suc n) l = refl

    none : (n : ℕ) → 1 ≡ number (take n [])
    none zero = refl
    none (suc n) = refl

pub tail_nothing : (ws items : List ℕ) (r : Place) → r.depth ≡ 0 → r.rest ≡ 0 → r.left ≡ 8 → r.seen ≡ 1 → Tail ws items r []
unfolding stack listed append_digits
tail_nothing ws items r d e f g = record {
  bits = [];
  chain = [];
  spells =
      subst (λ (k : ℕ). Spells (held ws) (stack ws items k) (rest_of r.rest) [] []) (sym d)
      (subst (λ (k : ℕ). Spells (held ws) [] (rest_of k) [] []) (sym e) Spells.spelt);
  lists = ap (λ (n : ℕ). listed n []) f;
  some = omega (arith, f);
  window = g ∙ ap (λ (n : ℕ). number (take n [])) (sym f);
}

-- ---- the whole list

pub tail_lists : (ws items : List ℕ) (r : Place) (shown : List Step) (is : List ℕ) (rest : Rest) (window : ℕ) → Tail ws items r shown → r.left ≡ 8 → r.seen ≡ window
    → stack ws items r.depth ≡ is → rest_of r.rest ≡ rest → Lists (held ws) is rest (string window) shown
tail_lists ws items r shown is rest window t e f s q = record {
  bits = t.bits;
  steps = t.chain;
  spells = subst (λ (x : Rest). Spells (held ws) is x t.bits t.chain) q (subst (λ (ks : List ℕ). Spells (held ws) ks (rest_of r.rest) t.bits t.chain) s t.spells);
  window =
      ap string (sym f ∙ t.window ∙ ap (λ (n : ℕ). number (take n t.bits)) e)
      ∙ number_string (lookahead t.bits) (omega (arith, length-take 8 t.bits));
  begins = sym t.lists ∙ ap (λ (n : ℕ). listed n t.chain) e;
}

-- the steps of one entry more
pub told_back : (steps : List ℕ) (j k n m : ℕ) → k ≡ j + 1 → m ≡ n + 1
    → steps_of (get_or steps (3 * j) 0) (get_or steps (3 * j + 1) 0) (get_or steps (3 * j + 2) 0) ++ told steps k n ≡ told steps j m
unfolding told
told_back steps j k n zero e f = absurd (omega arith)
told_back steps j k n (suc m) e f =
    let q : n ≡ m = omega arith in
    ap₂ (λ (a b : ℕ). steps_of (get_or steps (3 * j) 0) (get_or steps (3 * j + 1) 0) (get_or steps (3 * j + 2) 0) ++ told steps a b) e q

-- one entry by itself
pub told_one : (steps : List ℕ) (k : ℕ) → told steps k 1 ≡ steps_of (get_or steps (3 * k) 0) (get_or steps (3 * k + 1) 0) (get_or steps (3 * k + 2) 0)
unfolding told
told_one steps k = append-nil (steps_of (get_or steps (3 * k) 0) (get_or steps (3 * k + 1) 0) (get_or steps (3 * k + 2) 0))

-- ---- what the functions hand on

pub moved_rests : (ws is : List ℕ) (rest r : ℕ) (more : List Step) → 0 < rest → 0 < r → Moved ws is (after (rest - 1)) (after (r - 1)) more → Moved ws is (rest_of rest) (rest_of r) more
moved_rests ws is rest r more h l m =
    subst (λ (x : Rest). Moved ws is x (rest_of r) more) (sym (rest_after rest h)) (subst (λ (x : Rest). Moved ws is (after (rest - 1)) x more) (sym (rest_after r l)) m)

-- the entry's numbers, by other names
same_steps : (a b c p q s : ℕ) → a ≡ p → b ≡ q → c ≡ s → steps_of a b c ≡ steps_of p q s
same_steps a b c p q s e f g = ap (λ (k : ℕ). steps_of k b c) e ∙ ap (λ (k : ℕ). steps_of p k c) f ∙ ap (λ (k : ℕ). steps_of p q k) g

pub read_as : (ws items now-items : List ℕ) (at r : Place) (a b c p q s : ℕ) → a ≡ p → b ≡ q → c ≡ s → Read ws items now-items at r (steps_of a b c) → Read ws items now-items at r (steps_of p q s)
read_as ws items now-items at r a b c p q s e f g m = subst (λ (more : List Step). Read ws items now-items at r more) (same_steps a b c p q s e f g) m

pub made_as : (ws is js : List ℕ) (i a p v : ℕ) → a ≡ p → Made ws is js i (steps_of a i v) → Made ws is js i (steps_of p i v)
made_as ws is js i a p v e m = subst (λ (k : ℕ). Made ws is js i (steps_of k i v)) e m

pub moved_as : (ws is : List ℕ) (r s : Rest) (a b p q v : ℕ) → a ≡ p → b ≡ q → Moved ws is r s (steps_of a b v) → Moved ws is r s (steps_of p q v)
moved_as ws is r s a b p q v e f m = subst (λ (more : List Step). Moved ws is r s more) (same_steps a b v p q v e f refl) m

pub last_as : (ws items : List ℕ) (r : Place) (steps : List ℕ) (k a b c : ℕ) → a ≡ get_or steps (3 * k) 0 → b ≡ get_or steps (3 * k + 1) 0 → c ≡ get_or steps (3 * k + 2) 0
    → Tail ws items r (steps_of a b c) → Tail ws items r (told steps k 1)
last_as ws items r steps k a b c e f g t =
    subst (λ (l : List Step). Tail ws items r l) (same_steps a b c (get_or steps (3 * k) 0) (get_or steps (3 * k + 1) 0) (get_or steps (3 * k + 2) 0) e f g ∙ sym (told_one steps k)) t

-- one construct is left
pub one_left : (ws items : List ℕ) (depth i : ℕ) → depth ≡ 1 → i < max_constructs → get_or items 1 0 ≡ i → stack ws items depth ≡ i ∷ []
unfolding stack
one_left ws items depth i d h e = ap (stack ws items) d ∙ top_is ws items 1 i (omega arith) h e

pub tail_is : (ws items : List ℕ) (r : Place) (shown other : List Step) → shown ≡ other → Tail ws items r shown → Tail ws items r other
tail_is ws items r shown other e t = subst (λ (l : List Step). Tail ws items r l) e t

-- no entry, and all
pub told_none : (steps : List ℕ) (k : ℕ) → [] ≡ told steps k 0
unfolding told
told_none steps k = refl

pub all_told : (steps : List ℕ) (count : ℕ) → told steps 0 (count + 0) ≡ told steps 0 count
all_told steps count = let e : count + 0 ≡ count = omega arith in ap (told steps 0) e
