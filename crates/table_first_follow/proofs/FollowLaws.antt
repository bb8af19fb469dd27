-- What a construct hands to its parts is of FOLLOW, and where nothing grew the parts have it.
-- Assumes nothing.
use Prim.Native.Nat.{ℕ, zero, suc, ◌-◌, ◌≤◌, ◌<◌, min}
use mathlib.Core.Path.{◌≡◌, sym, ap, ◌∙◌, subst}
use mathlib.Core.Bool.{Bool, true, false, ◌||◌}
use mathlib.Core.Logic.{◌↔◌}
use mathlib.Core.List.Memᴰ
use mathlib.Core.List.{List, [], ◌∷◌}
use native.Mathlib.Decide.{dec_lt}
use native.Mathlib.Omega.{arith}
use lib.ListN.{length, get_or, take, drop, length-take, drop_of_length-le}
use lib.Seq.{drop-cons, get_or-take}
use Rattle.basis.specs.Limits.{max_constructs}
use Rattle.basis.specs.Bits.{Bits}
use Rattle.lookahead.specs.Sets.{Has, Is, Proper, Joined}
use Rattle.lookahead_slices.specs.Family.{part}
use Rattle.lookahead.proofs.LanguageLaws.{Strings, joined_map, joined_assoc, joined_unit_left}
use Rattle.lookahead.proofs.PassLaws.{is_map, is_joined}
use Rattle.table_layout.specs.Held.{held, HeldNode}
use Rattle.theory.specs.Derivation.{construct}
use Rattle.theory.specs.Lookahead.{First, Predicted}
use Rattle.theory.proofs.Inversion.{first_by}
use Rattle.table_first_follow.specs.Rules.{Family, Members}
use Rattle.table_first_follow.specs.Rounds.{strings, Step, within, first_of, follow_of, follow_low, FollowStep}
use Rattle.table_first_follow.specs.Follows.{Given, Before, After, Handed, Predicting, JoinedSets}
use Rattle.table_first_follow.specs.Sets.{sets_held, family_words, FirstSets, FollowSets, PredictionSets}
use Rattle.table_first_follow.proofs.HeldLaws.{node_past}
use Rattle.table_first_follow.proofs.RoundLaws.{none_past, no_step, step_map, step_then, added_step}

-- ---- FIRST of any number

pub first_any : (ws words : List ℕ) → length words ≡ family_words → FirstSets ws words → (m : ℕ) (x : Bits) → strings words m x ↔ first_of ws m x
first_any ws words e f m x = elim (dec_lt m sets_held) [
  | yes h ↦ (f m h).strings x
  | no h ↦ (
    (λ s. absurd (none_past words m e (omega arith) x s)),
    (λ s. absurd (Memᴰ.not-nil (first_by (held ws) (subst (λ (n : HeldNode). First (held ws) (construct m n) x) (node_past ws m (omega arith)) s)).1)),
  )
]

-- ---- a set given to a number

pub given_step : (Low High : Family) (old new : List ℕ) (b : ℕ) (set : List ℕ) (g : Bool) → Given old new b set g → Proper set → ((x : Bits) → Has set x → High b x)
    → Step Low High (λ words. (x : Bits) → Has set x → within words b x) old new g
given_step Low High old new b set g v p f = elim (dec_lt b sets_held) [
  | yes h ↦ step_map Low High (λ words. (x : Bits) → Has set x → strings words b x) (λ words. (x : Bits) → Has set x → within words b x) old new g (λ words c x m l. c x m)
      (added_step Low High old new b set g h (v.there h) p (λ t. f))
  | no h ↦
      let q = v.past (omega arith) in
      subst (λ (l : List ℕ). Step Low High (λ words. (x : Bits) → Has set x → within words b x) old l g) (sym q.0)
      (subst (λ (r : Bool). Step Low High (λ words. (x : Bits) → Has set x → within words b x) old old r) (sym q.1)
      (step_map Low High (λ words. Unit {0}) (λ words. (x : Bits) → Has set x → within words b x) old old false (λ words u x m l. absurd (omega arith)) (no_step Low High old)))
]

-- ---- the parts, from the last down

handed_drop : (joined : Bool) (F : Family) (A : Strings) (H : Family) (k : ℕ) (is : List ℕ) → Handed joined F A H is → Handed joined F A H (drop k is)
handed_drop joined F A H zero is h = h
handed_drop joined F A H (suc k) [] h = tt
handed_drop joined F A H (suc k) (m ∷ is) h = handed_drop joined F A H k is h.1

after_none : (joined : Bool) (F : Family) (set : List ℕ) → Proper set → Is set (After joined F (Has set) [])
after_none true F set p = record { strings = λ x. ((u x).1, (u x).0); proper = p }
  where
    u : (x : Bits) → Joined (Members F []) (Has set) x ↔ Has set x
    u x = joined_unit_left (Has set) (λ y h. h.0) x
after_none false F set p = record { strings = λ x. ((λ h. h), (λ h. h)); proper = p }

after_more : (joined : Bool) (F : Family) (A B : Strings) (m : ℕ) (s tail next : List ℕ) → ((x : Bits) → B x ↔ F m x) → Is tail (After joined F A s) → Is next (Before joined B (Has tail))
    → Is next (After joined F A (m ∷ s))
after_more true F A B m s tail next f t n = is_map next (Joined B (Has tail)) (Joined (Members F (m ∷ s)) A) (λ x. (to x, back x)) n
  where
    to : (x : Bits) → Joined B (Has tail) x → Joined (Members F (m ∷ s)) A x
    to x j = (joined_assoc (F m) (Members F s) A x).1 (joined_map B (Has tail) (F m) (Joined (Members F s) A) (λ y h. (f y).0 h) (λ y h. (t.strings y).0 h) x j)

    back : (x : Bits) → Joined (Members F (m ∷ s)) A x → Joined B (Has tail) x
    back x j = joined_map (F m) (Joined (Members F s) A) B (Has tail) (λ y h. (f y).1 h) (λ y h. (t.strings y).1 h) x ((joined_assoc (F m) (Members F s) A x).0 j)
after_more false F A B m s tail next f t n = is_map next (Has tail) A (λ x. t.strings x) n

module _ (ws : List ℕ) (joined : Bool) (set is : List ℕ) where
  abbrev F : Family
  F = first_of ws

  abbrev Done : ℕ → List ℕ → Type 0
  Done k words = Handed joined F (Has set) (within words) (drop k is)

  -- the parts from place k on have what follows them, and `tail` is what follows the one before
  pub record Handing (k : ℕ) (tail old new : List ℕ) (grew : Bool) : Type 0 where
    pub tails : Is tail (After joined F (Has set) (drop k is))
    pub step : FollowStep ws (Done k) old new grew
    pub size : length new ≡ family_words
    pub most : k ≤ length is

  pub hand_start : (k : ℕ) (words : List ℕ) → k ≡ length is → length words ≡ family_words → Proper set → Handing k set words words false
  hand_start k words e l p =
      let n : drop k is ≡ [] = drop_of_length-le is {i = k} (omega arith) in
      record {
        tails = subst (λ (s : List ℕ). Is set (After joined F (Has set) s)) (sym n) (after_none joined F set p);
        step = step_map (follow_low ws) (follow_of ws) (λ w. Unit {0}) (Done k) words words false
            (λ w u. subst (Handed joined F (Has set) (within w)) (sym n) tt) (no_step (follow_low ws) (follow_of ws) words);
        size = l;
        most = omega arith;
      }

  module _ (first : List ℕ) (l : length first ≡ family_words) (f : FirstSets ws first) (owed : Handed joined F (Has set) (follow_of ws) is) where
    pub hand_more : (k m : ℕ) (tail next old mid new : List ℕ) (g h r : Bool) → 0 < k → m ≡ get_or is (k - 1) 0 → r ≡ (g || h) → Handing k tail old mid g
        → Given mid new m tail h → length new ≡ length mid → Is next (Before joined (strings first m) (Has tail)) → Handing (k - 1) next old new r
    hand_more k m tail next old mid new g h r p em er s v q n =
        let c : k - 1 < length is = omega (arith, s.most) in
        let d : drop (k - 1) is ≡ m ∷ drop k is =
        drop-cons is (k - 1) 0 c ∙ ap (λ (j : ℕ). get_or is (k - 1) 0 ∷ drop j is) (let z : suc (k - 1) ≡ k = omega arith in z) ∙ ap (λ (j : ℕ). j ∷ drop k is) (sym em) in
        let o : (x : Bits) → After joined F (Has set) (drop k is) x → follow_of ws m x =
        (subst (Handed joined F (Has set) (follow_of ws)) d (handed_drop joined F (Has set) (follow_of ws) (k - 1) is owed)).0 in
        record {
          tails = subst (λ (t : List ℕ). Is next (After joined F (Has set) t)) (sym d)
              (after_more joined F (Has set) (strings first m) m (drop k is) tail next (first_any ws first l f m) s.tails n);
          step = subst (λ (b : Bool). FollowStep ws (Done (k - 1)) old new b) (sym er)
              (step_map (follow_low ws) (follow_of ws) (λ w. Done k w × ((x : Bits) → Has tail x → within w m x)) (Done (k - 1)) old new (g || h)
              (λ w b. subst (Handed joined F (Has set) (within w)) (sym d) ((λ x a. b.1 x ((s.tails.strings x).1 a)), b.0))
              (step_then (follow_low ws) (follow_of ws) (Done k) (λ w. (x : Bits) → Has tail x → within w m x) old mid new g h s.step
              (given_step (follow_low ws) (follow_of ws) mid new m tail h v s.tails.proper (λ x t. o x ((s.tails.strings x).0 t)))));
          size = q ∙ s.size;
          most = omega (arith, s.most);
        }

-- the number at a place of the list that was written down
pub placed_at : (n k : ℕ) (places is : List ℕ) → take n places ≡ is → k < n → get_or places k 0 ≡ get_or is k 0
placed_at n k places is e h = sym (get_or-take n places k 0 h) ∙ ap (λ (l : List ℕ). get_or l k 0) e

pub placed_length : (n : ℕ) (places is : List ℕ) → length places ≡ max_constructs → n ≤ max_constructs → take n places ≡ is → n ≡ length is
placed_length n places is l h e = (let z : n ≡ min n max_constructs = omega arith in z) ∙ ap (min n) (sym l) ∙ sym (length-take n places) ∙ ap length e

-- ---- prediction sets

pub is_predicting : (first follow a b out : List ℕ) (i : ℕ) → Is a (strings first i) → Is b (strings follow i) → Is out (Joined (Has a) (Has b)) → Is out (Predicting first follow i)
is_predicting first follow a b out i p q r = is_joined out a b (strings first i) (strings follow i) p.strings q.strings r

pub predictions : (ws first follow words : List ℕ) → FirstSets ws first → FollowSets ws follow → JoinedSets first follow words → PredictionSets ws words
predictions ws first follow words f g j i h = is_map (part i words) (Predicting first follow i) (Predicted (held ws) i) (λ x. (to x, back x)) (j i h)
  where
    to : (x : Bits) → Predicting first follow i x → Predicted (held ws) i x
    to x p = Predicted.predicted (((f i h).strings p.left).0 p.in_left) (((g i h).strings p.right).0 p.in_right) p.whole

    back : (x : Bits) → Predicted (held ws) i x → Predicting first follow i x
    back x (Predicted.predicted {x = a} {y = b} p q e) = record { left = a; right = b; in_left = ((f i h).strings a).1 p; in_right = ((g i h).strings b).1 q; whole = e }
