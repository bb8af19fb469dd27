-- From any entry the machine either derives it or fails, within weight × (bits + 1) steps, and no repetition begins more passes than bits
-- were taken and one.
-- Assumes nothing.
use Prim.Native.Nat.{ℕ, zero, suc, ◌+◌, ◌*◌, ◌≤◌, ◌<◌}
use native.Mathlib.Omega.{arith}
use native.Mathlib.Nat.{add-zero, zero-add, mul-le-mul_right, mul-le-mul_left, le_refl}
use borrow.Author.Tests.{leb-true}
use mathlib.Core.Path.{◌≡◌, refl, sym, ◌∙◌, ap, subst, subst₂}
use mathlib.Core.Logic.{◌⊎◌, inl, inr}
use mathlib.Core.Bool.{Bool, true}
use mathlib.Core.List.Memᴰ
use mathlib.Core.List.{List, [], ◌∷◌, ◌++◌}
use mathlib.Core.Option.{Option, none, some}
use lib.ListN.{length, take, length-append, take-append-drop}
use lib.Seq.{length-take-le}
use lib.Dec.{leb}
use Rattle.basis.specs.Bits.{Bits}
use Rattle.basis.specs.Counts.{Counts, Allows}
use Rattle.basis.specs.Lookahead.{lookahead}
use Rattle.basis.proofs.Booleans.{which}
use Rattle.theory.specs.Grammar.{Node, alternative, concatenation, repetition, switch, use_of, field, eod, Grammar, ◌∈◌}
use Rattle.theory.specs.Derivation.{Tree, node, covered, Capture, captures, Shape, construct, members, passes, Derives}
use Rattle.theory.specs.Lookahead.{First, EmptyBody}
use Rattle.theory.specs.Machine.{Tests, Entry, entry, State, state, Turn, fail, again, leave, turn, choose, entries, tree_steps, Passes}
use Rattle.theory.specs.Weight.{sum, largest, weigh, Outweighs}
use Rattle.theory.specs.Hypotheses.{Hypotheses}
use Rattle.theory.proofs.FieldWidths.{taken_width}
use Rattle.theory.proofs.FirstTheorem.{covers, first}
use Rattle.theory.proofs.Weights.{weigh_positive}
use Rattle.theory.proofs.Turns.{Reached, reached_zero, reached_again, allowed_leave}
use Rattle.theory.proofs.Steps as Steps
use Rattle.theory.proofs.Steps.{Stuck, Path, resize, arrive, then, one_step, after, after_both, after_none}

-- Arithmetic of the bound: steps within a weight, one more step with the construct above, one part after another.
step_under : (w W x a : ℕ) → w ≤ W → a ≤ w * (x + 1) → 1 + a ≤ (1 + W) * (x + 1)
step_under w W x a l h = let z : w * (x + 1) ≤ W * (x + 1) = mul-le-mul_right (x + 1) l in omega arith

one_after : (w W x y a b : ℕ) → a ≤ w * (x + 1) → b ≤ W * (y + 1) → a + b ≤ (w + W) * (x + y + 1)
one_after w W x y a b h k = omega arith

pass_after : (w x y a b : ℕ) → 1 ≤ x → a ≤ w * (x + 1) → b ≤ (2 * w + 1) * (y + 1) → 1 + (a + b) ≤ (2 * w + 1) * (x + y + 1)
pass_after w x y a b l h k = let z : w * 1 ≤ w * x = mul-le-mul_left w l in omega arith

at_least_count : {w : ℕ} → 1 ≤ w → (x : ℕ) → 1 ≤ w * (x + 1)
at_least_count {w} l x = omega (arith, mul-le-mul_right (x + 1) l)

some_bound : (W x : ℕ) → 1 ≤ (1 + W) * (x + 1)
some_bound W x = omega arith

-- an option, with what it is
pub given : {A : Type 0} (o : Option A) → (o ≡ none) ⊎ ((a : A) × (o ≡ some a))
given none = inl refl
given (some a) = inr (a, refl)

-- a turn, with what it is
pub which_turn : (t : Turn) → (t ≡ fail) ⊎ ((t ≡ again) ⊎ (t ≡ leave))
which_turn fail = inl refl
which_turn again = inr (inl refl)
which_turn leave = inr (inr refl)

-- a chosen branch is one of the branches
pub chosen_in : (holds : ℕ → Bool) (is : List ℕ) (b : ℕ) → choose holds is ≡ some b → b ∈ is
unfolding choose
chosen_in holds [] b e = let z : ◌≡◌ {A = ℕ} 0 1 = cc in absurd (omega arith)
chosen_in holds (a ∷ is) b e =
    elim (which (holds a)) [ inl t ↦ Memᴰ.head {x = a} (let z : some a ≡ some b = rw (t, choose) at e in cc) | inr t ↦ Memᴰ.tail (chosen_in holds is b (rw (t, choose) at e)) ]

pub in_largest : (f : ℕ → ℕ) {b : ℕ} {is : List ℕ} → b ∈ is → f b ≤ largest f is
unfolding largest
in_largest f {is = []} m = elim m [ ]
in_largest f {is = a ∷ is} (Memᴰ.head e) = rw e (omega arith)
in_largest f {is = a ∷ is} (Memᴰ.tail m) = let z = in_largest f m in omega arith

pub passes_more : {Context : Type 0} (es : List (Entry Context)) {m n : ℕ} → m ≤ n → Passes es m → Passes es n
passes_more [] l h = tt
passes_more (entry i c k ∷ es) l h = (omega arith, passes_more es l h.1)

pub passes_new : {Context : Type 0} (c : Context) (is : List ℕ) (es : List (Entry Context)) (n : ℕ) → Passes es n → Passes (entries c is ++ es) n
passes_new c [] es n h = h
passes_new c (i ∷ is) es n h = (omega arith, passes_new c is es n h)

-- "counts more passes than the frame's bits and one" is never so of a run: no more passes than the bits taken, and one
abbrev pub Counted : {Context Values : Type 0} → State Context Values → Type 0
Counted (state es s p v cs) = Passes es (suc p)

module _ {Context Values : Type 0} (g : Grammar Context Values) (tests : Tests) (h : Hypotheses g tests) (weight : Context → ℕ → ℕ) (weighs : Outweighs g weight) where
  -- The machine, with these entries first, n steps later has failed.
  pub data Fails (σ : State Context Values) (most : ℕ) : Type 0 where
    fails : {n i k : ℕ} {c : Context} {es : List (Entry Context)} {s : Bits} {p : ℕ} {v : Values} {cs : List Capture} → Path g tests Counted n σ (state (entry i c k ∷ es) s p v cs)
        → Counted (state (entry i c k ∷ es) s p v cs) → Stuck g tests (state (entry i c k ∷ es) s p v cs) → suc n ≤ most → Fails σ most

  -- It has derived `what` and goes on with the other entries, or has failed.
  pub data Outcome (what : Shape Context Values) (first : List (Entry Context)) (w : ℕ) (others : List (Entry Context)) (c : Context) (s : Bits) (p : ℕ) (v : Values) (cs : List Capture) : Type 0 where
    derived : {t : Tree} {v' : Values} {r : Bits} → Derives g what t c v s v' r → Path g tests Counted (tree_steps t) (state (first ++ others) s p v cs) (after others t p r v' cs)
        → tree_steps t ≤ w * (length (covered t) + 1) → Outcome what first w others c s p v cs
    failed : Fails (state (first ++ others) s p v cs) (w * (length s + 1)) → Outcome what first w others c s p v cs

  abbrev pub One : Context → ℕ → Node Context Values → ℕ → Type 0
  One c i n w = (others : List (Entry Context)) (s : Bits) (p : ℕ) (v : Values) (cs : List Capture) → Passes others (suc p) → Outcome (construct i n) (entry i c 0 ∷ []) w others c s p v cs

  -- what holds of each construct whose weight is at most n
  abbrev pub Each : ℕ → Type 0
  Each n = (c : Context) (i : ℕ) → weight c i ≤ n → One c i (g.node i) (weight c i)

  -- a failure one step later, or after a part that was derived
  later : {σ τ : State Context Values} {m M : ℕ} → Counted σ → Steps.Goes g tests σ τ → 1 + m ≤ M → Fails τ m → Fails σ M
  later k e l (Fails.fails q k' x l') = Fails.fails (Path.next k e q) k' x (omega arith)

  fails_after : {σ τ : State Context Values} {n m M : ℕ} → Path g tests Counted n σ τ → n + m ≤ M → Fails τ m → Fails σ M
  fails_after q l (Fails.fails q' k x l') = Fails.fails (then g tests q q') k x (omega arith)

  at_once : {i k : ℕ} {c : Context} {es : List (Entry Context)} {s : Bits} {p : ℕ} {v : Values} {cs : List Capture} {M : ℕ}
      → Counted (state (entry i c k ∷ es) s p v cs) → Stuck g tests (state (entry i c k ∷ es) s p v cs) → 1 ≤ M → Fails (state (entry i c k ∷ es) s p v cs) M
  at_once k x l = Fails.fails Path.here k x l

  suc_over : (j k : ℕ) → suc j + k ≡ j + suc k
  suc_over j k = omega arith

  no_later : {σ : State Context Values} {m M : ℕ} → m ≤ M → Fails σ m → Fails σ M
  no_later l (Fails.fails q k x l') = Fails.fails q k x (omega arith)

  -- a step into one part: a branch, a case, a rule's body
  into : {i b : ℕ} {n : Node Context Values} {w W : ℕ} {c c' : Context} {others : List (Entry Context)} {s : Bits} {p : ℕ} {v u : Values} {cs : List Capture}
      → Passes others (suc p) → Steps.Goes g tests (state (entry i c 0 ∷ others) s p v cs) (state (entry b c' 0 ∷ others) s p u cs) → w ≤ W
      → ((t : Tree) (v' : Values) (r : Bits) → Derives g (construct b (g.node b)) t c' u s v' r → Derives g (construct i n) (node i t) c v s v' r)
      → Outcome (construct b (g.node b)) (entry b c' 0 ∷ []) w others c' s p u cs → Outcome (construct i n) (entry i c 0 ∷ []) (1 + W) others c s p v cs
  unfolding tree_steps covered captures
  into {w = w} {W} k e l above (Outcome.derived {t} {v'} {r} d q b) =
      Outcome.derived (above t v' r d) (resize g tests (omega arith) (Path.next (omega arith, k) e q)) (step_under w W (length (covered t)) _ l b)
  into {w = w} {W} {s = s} k e l above (Outcome.failed x) = Outcome.failed (later (omega arith, k) e (step_under w W (length s) (w * (length s + 1)) l (omega arith)) x)

  covered_length : {what : Shape Context Values} {t : Tree} {c : Context} {v v' : Values} {s r : Bits} → Derives g what t c v s v' r → length s ≡ length (covered t) + length r
  covered_length {t = t} {r = r} d = ap length (covers g d) ∙ length-append (covered t) r

  -- a member that was derived, and the members after it
  member_then : {i : ℕ} {is : List ℕ} (w : ℕ) {W : ℕ} {c : Context} {others : List (Entry Context)} {s r : Bits} {p : ℕ} {v v' : Values} {cs : List Capture} {t : Tree}
      → Derives g (construct i (g.node i)) t c v s v' r → Path g tests Counted (tree_steps t) (state (entry i c 0 ∷ (entries c is ++ others)) s p v cs) (after (entries c is ++ others) t p r v' cs)
      → tree_steps t ≤ w * (length (covered t) + 1)
      → Outcome (members is) (entries c is) W others c r (p + length (covered t)) v' (cs ++ captures t p) → Outcome (members (i ∷ is)) (entries c (i ∷ is)) (w + W) others c s p v cs
  unfolding tree_steps covered captures
  member_then w {W} {others = others} {p = p} {cs = cs} {t = t} d q b (Outcome.derived {t = u} {v' = v''} {r = r'} ds q' b') =
      Outcome.derived (Derives.more_members d ds) (arrive g tests (after_both others p r' v'' cs t u _ _ refl refl) (then g tests q q'))
      (rw length-append (one_after w W (length (covered t)) (length (covered u)) (tree_steps t) (tree_steps u) b b'))
  member_then w {W} {s = s} {r} {t = t} d q b (Outcome.failed x) =
      Outcome.failed (fails_after q (rw (covered_length d) (one_after w W (length (covered t)) (length r) (tree_steps t) (W * (length r + 1)) b (omega arith))) x)

  member_or : {i : ℕ} {is : List ℕ} {w W : ℕ} {c : Context} {others : List (Entry Context)} {s : Bits} {p : ℕ} {v : Values} {cs : List Capture} → Passes others (suc p)
      → Outcome (construct i (g.node i)) (entry i c 0 ∷ []) w (entries c is ++ others) c s p v cs
      → ((s' : Bits) (p' : ℕ) (v' : Values) (cs' : List Capture) → Passes others (suc p') → Outcome (members is) (entries c is) W others c s' p' v' cs')
      → Outcome (members (i ∷ is)) (entries c (i ∷ is)) (w + W) others c s p v cs
  member_or {w = w} {others = others} {p = p} {cs = cs} k (Outcome.derived {t} {v'} {r} d q b) rest =
      member_then w d q b (rest r (p + length (covered t)) v' (cs ++ captures t p) (passes_more others (omega arith) k))
  member_or k (Outcome.failed x) rest = Outcome.failed (no_later (omega arith) x)

  several : {m : ℕ} → Each m → (c : Context) (is : List ℕ) → sum (weight c) is ≤ m → (others : List (Entry Context)) (s : Bits) (p : ℕ) (v : Values) (cs : List Capture) → Passes others (suc p)
      → Outcome (members is) (entries c is) (sum (weight c) is) others c s p v cs
  unfolding sum tree_steps covered captures
  several each c [] l others s p v cs k = Outcome.derived Derives.no_members (arrive g tests (after_none others p s v cs) Path.here) (omega arith)
  several each c (i ∷ is) l others s p v cs k =
      member_or k (each c i (omega arith) (entries c is ++ others) s p v cs (passes_new c is others (suc p) k)) (λ s' p' v' cs' k'. several each c is (omega arith) others s' p' v' cs' k')

  -- a body that is derived takes a bit
  takes_a_bit : {i b : ℕ} {counts : Context → Values → Counts} {static : Counts} {fixed : Bool} {t : Tree} {c : Context} {v v' : Values} {s r : Bits}
      → g.node i ≡ repetition counts static fixed b → Derives g (construct b (g.node b)) t c v s v' r → 1 ≤ length (covered t)
  takes_a_bit {i} {b} {t = t} q d = some_bit (covered t) (λ e. h.no_empty_body i (EmptyBody.empty_body q (subst (λ (x : Bits). First g (construct b (g.node b)) (lookahead x)) e (first g h.static d refl))))
    where
      some_bit : (x : Bits) → (x ≡ [] → ⊥) → 1 ≤ length x
      some_bit [] n = absurd (n refl)
      some_bit (y ∷ x) n = omega arith

  module _ {i b : ℕ} {counts : Context → Values → Counts} {static : Counts} {fixed : Bool} (q : g.node i ≡ repetition counts static fixed b) (c : Context)
      (body : One c b (g.node b) (weight c b)) (others : List (Entry Context)) where
    -- The repetition, with j passes begun, has derived further passes and left, or failed.
    data Repeats (j : ℕ) (s : Bits) (p : ℕ) (v : Values) (cs : List Capture) : Type 0 where
      repeated : {k : ℕ} {t : Tree} {v' : Values} {r : Bits} → Allows (counts c v) (j + k) → Derives g (passes b k) t c v s v' r
          → Path g tests Counted (1 + tree_steps t) (state (entry i c j ∷ others) s p v cs) (after others t p r v' cs)
          → 1 + tree_steps t ≤ (2 * weight c b + 1) * (length (covered t) + 1) → Repeats j s p v cs
      stopped : Fails (state (entry i c j ∷ others) s p v cs) ((2 * weight c b + 1) * (length s + 1)) → Repeats j s p v cs

    -- what the repetition does from the next pass on, if that begins with fewer bits left
    abbrev Rest : ℕ → Bits → Type 0
    Rest j s = (s' : Bits) (p : ℕ) (v : Values) (cs : List Capture) → length s' < length s → j ≤ p → Reached (counts c v) j → Passes others (suc p) → Repeats j s' p v cs

    pass_then : {j : ℕ} {s r : Bits} {p : ℕ} {v v' : Values} {cs : List Capture} {t : Tree} → Counted (state (entry i c j ∷ others) s p v cs)
        → Steps.Goes g tests (state (entry i c j ∷ others) s p v cs) (state (entry b c 0 ∷ entry i c (suc j) ∷ others) s p v cs)
        → Derives g (construct b (g.node b)) t c v s v' r
        → Path g tests Counted (tree_steps t) (state (entry b c 0 ∷ entry i c (suc j) ∷ others) s p v cs) (after (entry i c (suc j) ∷ others) t p r v' cs)
        → tree_steps t ≤ weight c b * (length (covered t) + 1) → Repeats (suc j) r (p + length (covered t)) v' (cs ++ captures t p) → Repeats j s p v cs
    unfolding tree_steps covered captures
    pass_then {j} {p = p} {cs = cs} {t} k e d q₁ l (Repeats.repeated {k = n} {t = u} {v' = v''} {r = r'} a ds q₂ l') =
        Repeats.repeated {k = suc n} (subst₂ Allows (h.body_keeps_counts q d) (suc_over j n) a) (Derives.more_passes d ds)
        (resize g tests (omega arith) (arrive g tests (after_both others p r' v'' cs t u _ _ refl refl) (Path.next k e (then g tests q₁ q₂))))
        (rw length-append (let z = pass_after (weight c b) (length (covered t)) (length (covered u)) (tree_steps t) (1 + tree_steps u) (takes_a_bit q d) l l' in omega arith))
    pass_then {r = r} {t = t} k e d q₁ l (Repeats.stopped x) =
        Repeats.stopped
        (later {m = tree_steps t + (2 * weight c b + 1) * (length r + 1)} k e
        (rw (covered_length d) (pass_after (weight c b) (length (covered t)) (length r) (tree_steps t) ((2 * weight c b + 1) * (length r + 1)) (takes_a_bit q d) l (omega arith)))
        (fails_after q₁ (omega arith) x))

    pass_or : {j : ℕ} {s : Bits} {p : ℕ} {v : Values} {cs : List Capture} → j ≤ p → Passes others (suc p)
        → turn (counts c v) j (tests.continues i (lookahead s)) (tests.exits i (lookahead s)) ≡ again → Rest (suc j) s
        → Outcome (construct b (g.node b)) (entry b c 0 ∷ []) (weight c b) (entry i c (suc j) ∷ others) c s p v cs → Repeats j s p v cs
    pass_or {j} {s} {p} {v} {cs} l k e rest (Outcome.derived {t} {v'} {r} d q₁ l') =
        let n : length s ≡ length (covered t) + length r = covered_length d in
        let m : 1 ≤ length (covered t) = takes_a_bit q d in
        pass_then (omega arith, k) (Steps.step_again g tests q e) d q₁ l'
        (rest r (p + length (covered t)) v' (cs ++ captures t p) (omega arith) (omega arith)
        (subst (λ (x : Counts). Reached x (suc j)) (sym (h.body_keeps_counts q d)) (reached_again (counts c v) j _ _ e)) (passes_more others (omega arith) k))
    pass_or {s = s} l k e rest (Outcome.failed x) = Repeats.stopped (later (omega arith, k) (Steps.step_again g tests q e) (omega arith) x)

    round : (j : ℕ) (s : Bits) (p : ℕ) (v : Values) (cs : List Capture) → j ≤ p → Reached (counts c v) j → Passes others (suc p) → Rest (suc j) s → Repeats j s p v cs
    unfolding tree_steps covered captures
    round j s p v cs l a k rest =
        elim (which_turn (turn (counts c v) j (tests.continues i (lookahead s)) (tests.exits i (lookahead s)))) [
          | inl e ↦ Repeats.stopped (at_once (omega arith, k) (Steps.fails_repetition g tests q e) (omega arith))
          | inr o ↦
              elim o [
                | inl e ↦ pass_or l k e rest (body (entry i c (suc j) ∷ others) s p v cs (omega arith, k))
                | inr e ↦
                    Repeats.repeated {k = 0} (subst (Allows (counts c v)) (sym (add-zero j)) (allowed_leave (counts c v) j _ _ e a)) Derives.no_passes
                    (arrive g tests (after_none others p s v cs) (resize g tests (omega arith) (Path.next (omega arith, k) (Steps.step_leave g tests q e) Path.here))) (omega arith)
              ]
        ]

    -- by recursion on a bound of the bits left
    repeats : (most j : ℕ) (s : Bits) (p : ℕ) (v : Values) (cs : List Capture) → length s ≤ most → j ≤ p → Reached (counts c v) j → Passes others (suc p) → Repeats j s p v cs
    repeats zero j s p v cs n l a k = round j s p v cs l a k (λ s' p' v' cs' n' l' a' k'. absurd (omega arith))
    repeats (suc most) j s p v cs n l a k = round j s p v cs l a k (λ s' p' v' cs' n' l' a' k'. repeats most (suc j) s' p' v' cs' (omega arith) l' a' k')

    -- the whole repetition
    whole : {s : Bits} {p : ℕ} {v : Values} {cs : List Capture} → Repeats 0 s p v cs → Outcome (construct i (repetition counts static fixed b)) (entry i c 0 ∷ []) (2 * weight c b + 1) others c s p v cs
    unfolding tree_steps covered captures
    whole {v = v} (Repeats.repeated {k} a d q₁ l) = Outcome.derived (Derives.of_repetition k (subst (Allows (counts c v)) (zero-add k) a) d) q₁ l
    whole (Repeats.stopped x) = Outcome.failed x

  -- a field's leaf
  leaf_of : {i : ℕ} {w : Bits → ℕ} {admits : Context → Values → Bits → Bool} {static : Bits → Bool} {binds : Context → Values → Bits → Values} (c : Context)
      → g.node i ≡ field w admits static binds → (others : List (Entry Context)) (s : Bits) (p : ℕ) (v : Values) (cs : List Capture) → Passes others (suc p)
      → leb (w s) (length s) ≡ true → admits c v (take (w s) s) ≡ true → Outcome (construct i (field w admits static binds)) (entry i c 0 ∷ []) 1 others c s p v cs
  unfolding tree_steps covered captures
  leaf_of {i} {w} {binds = binds} c q others s p v cs k l a =
      let m : w s ≤ length s = leb-true (w s) (length s) l in
      let n : length (take (w s) s) ≡ w s = length-take-le (w s) s m in
      Outcome.derived (Derives.of_field (take (w s) s) (n ∙ sym (taken_width g h.static q s m)) (sym (take-append-drop (w s) s)) a refl)
      (arrive g tests (rw n) (Path.next (omega arith, k) (Steps.step_field g tests q l a) Path.here)) (omega arith)

  members_of : {i : ℕ} {is : List ℕ} {W : ℕ} {c : Context} {others : List (Entry Context)} {s : Bits} {p : ℕ} {v : Values} {cs : List Capture} → Passes others (suc p)
      → g.node i ≡ concatenation is → Outcome (members is) (entries c is) W others c s p v cs → Outcome (construct i (concatenation is)) (entry i c 0 ∷ []) (1 + W) others c s p v cs
  unfolding tree_steps covered captures
  members_of {W = W} k q (Outcome.derived {t} d q₁ l) =
      Outcome.derived (Derives.of_concatenation d) (resize g tests (omega arith) (Path.next (omega arith, k) (Steps.step_concatenation g tests q) q₁))
      (step_under W W (length (covered t)) (tree_steps t) (omega arith) l)
  members_of {W = W} {s = s} k q (Outcome.failed x) =
      Outcome.failed (later (omega arith, k) (Steps.step_concatenation g tests q) (step_under W W (length s) (W * (length s + 1)) (omega arith) (omega arith)) x)

  end_of : {i : ℕ} (c : Context) → g.node i ≡ eod → (others : List (Entry Context)) (p : ℕ) (v : Values) (cs : List Capture) → Passes others (suc p)
      → Outcome (construct i eod) (entry i c 0 ∷ []) 1 others c [] p v cs
  unfolding tree_steps covered captures
  end_of c q others p v cs k =
      Outcome.derived Derives.of_eod (arrive g tests (after_none others p [] v cs) (Path.next (omega arith, k) (Steps.step_eod g tests q) Path.here)) (omega arith)

  outcome : {n : ℕ} → Each n → (c : Context) (i : ℕ) (x : Node Context Values) → g.node i ≡ x → weigh weight c x ≤ suc n
      → (others : List (Entry Context)) (s : Bits) (p : ℕ) (v : Values) (cs : List Capture) → Passes others (suc p) → Outcome (construct i x) (entry i c 0 ∷ []) (weigh weight c x) others c s p v cs
  unfolding weigh covered captures tree_steps
  outcome each c i (alternative is) q l others s p v cs k =
      elim (given (choose (λ b. tests.predicts b (lookahead s)) is)) [
        | inl e ↦ Outcome.failed (at_once (omega arith, k) (Steps.fails_alternative g tests q e) (some_bound _ _))
        | inr e ↦
            let m : e.0 ∈ is = chosen_in _ is e.0 e.1 in
            let z : weight c e.0 ≤ largest (weight c) is = in_largest (weight c) m in
            into k (Steps.step_alternative g tests q e.1) z (λ t v' r d. Derives.of_alternative m d) (each c e.0 (omega arith) others s p v cs k)
      ]
  outcome each c i (concatenation is) q l others s p v cs k = members_of k q (several each c is (omega arith) others s p v cs k)
  outcome each c i (repetition counts static fixed b) q l others s p v cs k =
      whole q c (each c b (omega arith)) others (repeats q c (each c b (omega arith)) others (length s) 0 s p v cs (omega arith) (omega arith) (reached_zero (counts c v)) k)
  outcome each c i (switch chosen optional is) q l others s p v cs k =
      elim (given (chosen c v)) [
        | inl e ↦
            elim (which optional) [
              | inl o ↦
                  Outcome.derived (Derives.of_no_case e o) (arrive g tests (after_none others p s v cs) (one_step g tests (omega arith, k) (Steps.step_no_case g tests q e o))) (omega arith)
              | inr o ↦ Outcome.failed (at_once (omega arith, k) (Steps.fails_switch g tests q e o) (some_bound _ _))
            ]
        | inr e ↦
            let z : weight c e.0 ≤ largest (weight c) is = in_largest (weight c) (h.static.chosen_listed q c v e.1) in
            into k (Steps.step_switch g tests q e.1) z (λ t v' r d. Derives.of_switch e.1 d) (each c e.0 (omega arith) others s p v cs k)
      ]
  outcome each c i (use_of enters opens closes b) q l others s p v cs k =
      elim (given (enters c)) [
        | inl e ↦ Outcome.failed (at_once (omega arith, k) (Steps.fails_use g tests q e) (let z = weigh_positive weight c (use_of enters opens closes b) in at_least_count z (length s)))
        | inr e ↦
            let w : weigh weight c (use_of enters opens closes b) ≡ 1 + weight e.0 b = rw (e.1, weigh) in
            subst (λ (x : ℕ). Outcome (construct i (use_of enters opens closes b)) (entry i c 0 ∷ []) x others c s p v cs) (sym w)
            (into k (Steps.step_use g tests q e.1) (le_refl (weight e.0 b)) (λ t v' r d. Derives.of_use e.1 d (sym (h.values_stay q v v')))
            (each e.0 b (omega arith) others s p (opens c v) cs k))
      ]
  outcome each c i (field w admits static binds) q l others s p v cs k =
      elim (which (leb (w s) (length s))) [
        | inl t ↦
            elim (which (admits c v (take (w s) s)))
            [ inl u ↦ leaf_of c q others s p v cs k t u | inr u ↦ Outcome.failed (at_once (omega arith, k) (Steps.fails_field g tests q t u) (omega arith)) ]
        | inr t ↦ Outcome.failed (at_once (omega arith, k) (Steps.fails_short g tests q t) (omega arith))
      ]
  outcome each c i eod q l others [] p v cs k = end_of c q others p v cs k
  outcome each c i eod q l others (x ∷ s) p v cs k = Outcome.failed (at_once (omega arith, k) (Steps.fails_eod g tests q) (omega arith))

  -- within a larger weight too
  more_weight : {what : Shape Context Values} {first others : List (Entry Context)} {w W : ℕ} {c : Context} {s : Bits} {p : ℕ} {v : Values} {cs : List Capture}
      → w ≤ W → Outcome what first w others c s p v cs → Outcome what first W others c s p v cs
  more_weight l (Outcome.derived {t} d q b) = Outcome.derived d q (omega (arith, mul-le-mul_right (length (covered t) + 1) l))
  more_weight {s = s} l (Outcome.failed x) = Outcome.failed (no_later (mul-le-mul_right (length s + 1) l) x)

  -- by recursion on a bound of the weight
  pub each : (n : ℕ) → Each n
  each zero c i l = absurd (let z = weigh_positive weight c (g.node i) in omega (arith, weighs c i))
  each (suc n) c i l = λ others s p v cs k. more_weight (weighs c i) (outcome (each n) c i (g.node i) refl (omega (arith, weighs c i)) others s p v cs k)
