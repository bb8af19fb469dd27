-- A law for each entry: what its construct is made of, or what follows it, by the rule of FIRST or FOLLOW that the entry stands for.
-- Assumes nothing.
use Prim.Native.Nat.{ℕ, zero, suc, ◌+◌, ◌-◌, ◌≤◌, ◌<◌, min}
use mathlib.Core.Path.{◌≡◌, refl, sym, ap, ◌∙◌, subst}
use mathlib.Core.Bool.{true}
use mathlib.Core.List.Memᴰ
use mathlib.Core.List.{List, [], ◌∷◌, ◌++◌, append-nil, append_assoc}
use native.Mathlib.Omega.{arith}
use lib.ListN.{replicate}
use Rattle.basis.specs.Bits.{Bits}
use Rattle.basis.specs.Counts.{Allows}
use Rattle.basis.specs.Limits.{max_constructs}
use mathlib.Core.Option.{some}
use Rattle.theory.specs.Grammar.{◌∈◌, concatenation, use_of}
use Rattle.table_layout.specs.Places.{rule_word}
use Rattle.table_layout.specs.Constructs.{construct_at}
use Rattle.table_layout.specs.Held.{held, node_of, parts, size_of, no_default, passes_static}
use Rattle.table_layout.specs.declared.Construct.{Construct}
use Rattle.table_layout.specs.declared.Passes.{Passes}
use Rattle.table_first_follow.specs.Parts.{siblings}
use Rattle.table_first_follow.proofs.HeldLaws.{node_inside}
use Rattle.table_first_follow.proofs.PartLaws.{parts_siblings, siblings_first, siblings_next}
use Rattle.report_chain_meaning.specs.Chains.{Step, enters, repeats, ends, leaves, goes_on, passes_over, Rest, after, Spells, listed}
use Rattle.report_chain_steps.specs.Replayed.{stack, Made, Moved}

in_middle : (before : List ℕ) (b : ℕ) (more : List ℕ) → b ∈ before ++ b ∷ more
in_middle [] b more = Memᴰ.head refl
in_middle (a ∷ before) b more = Memᴰ.tail (in_middle before b more)

-- a part that was found on the walk
pub found_part : (ws : List ℕ) (start end b : ℕ) (before : List ℕ) → b < end → siblings ws start end ≡ before ++ siblings ws b end → b ∈ siblings ws start end
found_part ws start end b before h e =
    let x = siblings_first ws end b h in
    subst (λ (is : List ℕ). b ∈ is) (sym (e ∙ ap (λ (is : List ℕ). before ++ is) x.1)) (in_middle before b x.0)

module _ (ws : List ℕ) (i : ℕ) (h : i < max_constructs) where
  node_is : (c : Construct) → construct_at ws i ≡ c → (held ws).node i ≡ node_of ws i c
  node_is c e = node_inside ws i h ∙ ap (node_of ws i) e

  -- the parts of a construct of `size`
  all_parts : (c : Construct) (end : ℕ) → construct_at ws i ≡ c → end ≡ i + size_of (construct_at ws i) → siblings ws (i + 1) end ≡ parts (size_of c) ws (i + 1) (i + size_of c)
  all_parts c end e q = ap (siblings ws (i + 1)) (q ∙ ap (λ (k : Construct). i + size_of k) e) ∙ sym (parts_siblings ws i (size_of c))

  module _ (is js : List ℕ) where
    at : {r : Rest} {x : Bits} {l : List Step} {ks : List ℕ} → is ≡ ks → Spells (held ws) is r x l → Spells (held ws) ks r x l
    at {r} {x} {l} e p = subst (λ (ks : List ℕ). Spells (held ws) ks r x l) e p

    pub made_use : (rule b : ℕ) → construct_at ws i ≡ Construct.Use rule → b ≡ rule_word ws rule 0 → is ≡ b ∷ js → Made ws is js i (enters i ∷ [])
    unfolding node_of listed
    made_use rule b e f s r x l p = record {
      chain = enters i ∷ l;
      spells = Spells.by_use (node_is (Construct.Use rule) e) (at (s ∙ ap (λ (k : ℕ). k ∷ js) f) p);
      longer = λ n. refl;
    }

    pub made_branch : (size end b : ℕ) → construct_at ws i ≡ Construct.Alternative size → end ≡ i + size_of (construct_at ws i) → b ∈ siblings ws (i + 1) end → is ≡ b ∷ js → Made ws is js i []
    unfolding node_of
    made_branch size end b e q m s r x l p = record {
      chain = l;
      spells = Spells.by_branch (node_is (Construct.Alternative size) e) (subst (λ (ks : List ℕ). b ∈ ks) (all_parts (Construct.Alternative size) end e q) m) (at s p);
      longer = λ n. refl;
    }

    pub made_case : (size end b : ℕ) → construct_at ws i ≡ Construct.Switch size → end ≡ i + size_of (construct_at ws i) → b ∈ siblings ws (i + 1) end → is ≡ b ∷ js → Made ws is js i []
    unfolding node_of
    made_case size end b e q m s r x l p = record {
      chain = l;
      spells = Spells.by_case (node_is (Construct.Switch size) e) (subst (λ (ks : List ℕ). b ∈ ks) (all_parts (Construct.Switch size) end e q) m) (at s p);
      longer = λ n. refl;
    }

    pub made_members : (size end : ℕ) → construct_at ws i ≡ Construct.Concatenation size → end ≡ i + size_of (construct_at ws i) → is ≡ siblings ws (i + 1) end ++ js → Made ws is js i []
    unfolding node_of
    made_members size end e q s r x l p = record {
      chain = l;
      spells = Spells.by_members (node_is (Construct.Concatenation size) e) (at (s ∙ ap (λ (ks : List ℕ). ks ++ js) (all_parts (Construct.Concatenation size) end e q)) p);
      longer = λ n. refl;
    }

    pub made_passes : (size : ℕ) (passes : Passes) (k n : ℕ) → construct_at ws i ≡ Construct.Repetition size passes → Allows (passes_static ws passes) k → n ≡ min 8 k
        → is ≡ replicate k (i + 1) ++ js → Made ws is js i (repeats i n ∷ [])
    unfolding node_of listed
    made_passes size passes k n e a m s r x l p = record {
      chain = repeats i k ∷ l;
      spells = Spells.by_passes k (node_is (Construct.Repetition size passes) e) a (at s p);
      longer = λ j. ap (λ (v : ℕ). repeats i v ∷ listed (suc j) l) (sym m);
    }

  module _ (is : List ℕ) where
    pub made_eod : construct_at ws i ≡ Construct.Eod → Made ws is is i (ends i ∷ [])
    unfolding node_of listed
    made_eod e r x l p = record { chain = ends i ∷ l; spells = Spells.by_eod (node_is Construct.Eod e) p; longer = λ n. refl }

    pub made_no_case : (size end : ℕ) → construct_at ws i ≡ Construct.Switch size → end ≡ i + size_of (construct_at ws i) → no_default ws (siblings ws (i + 1) end) ≡ true
        → Made ws is is i (passes_over i ∷ [])
    unfolding node_of listed
    made_no_case size end e q d r x l p = record {
      chain = passes_over i ∷ l;
      spells = Spells.by_no_case (node_is (Construct.Switch size) e) (sym (ap (no_default ws) (all_parts (Construct.Switch size) end e q)) ∙ d) p;
      longer = λ n. refl;
    }

    here : {r : Rest} {x : Bits} {l : List Step} {ks : List ℕ} → is ≡ ks → Spells (held ws) is r x l → Spells (held ws) ks r x l
    here {r} {x} {l} e p = subst (λ (ks : List ℕ). Spells (held ws) ks r x l) e p

    pub moved_rule : (rule b : ℕ) → construct_at ws i ≡ Construct.Use rule → b ≡ rule_word ws rule 0 → is ≡ [] → Moved ws is (after i) (after b) (leaves i ∷ [])
    unfolding node_of listed
    moved_rule rule b e f s x l p = record {
      chain = leaves i ∷ l;
      spells = Spells.after_rule (node_is (Construct.Use rule) e ∙ ap (use_of (λ c. some c) (λ c v. v) (λ v v'. v')) (sym f)) (here s p);
      longer = λ n. refl;
    }

    pub moved_pass : (size : ℕ) (passes : Passes) (n : ℕ) → construct_at ws i ≡ Construct.Repetition size passes → 0 < n → n ≤ 8 → is ≡ replicate n (i + 1) ++ [] → Moved ws is (after i) (after (i + 1)) (goes_on i n ∷ [])
    unfolding node_of listed
    moved_pass size passes zero e a b s x l p = absurd (omega arith)
    moved_pass size passes (suc k) e a b s x l p = record {
      chain = goes_on i (suc k) ∷ l;
      spells = Spells.after_pass k (node_is (Construct.Repetition size passes) e) (here (s ∙ append-nil (replicate (suc k) (i + 1))) p);
      longer = λ n. let m : min 8 (suc k) ≡ suc k = omega arith in ap (λ (v : ℕ). goes_on i v ∷ listed (suc n) l) m;
    }

    pub moved_last_pass : (size : ℕ) (passes : Passes) → construct_at ws i ≡ Construct.Repetition size passes → is ≡ [] → Moved ws is (after i) (after (i + 1)) []
    unfolding node_of
    moved_last_pass size passes e s x l p = record { chain = l; spells = Spells.after_last_pass (node_is (Construct.Repetition size passes) e) (here s p); longer = λ n. refl }

    pub moved_branch : (size end b : ℕ) → construct_at ws i ≡ Construct.Alternative size → end ≡ i + size_of (construct_at ws i) → b ∈ siblings ws (i + 1) end → is ≡ [] → Moved ws is (after i) (after b) []
    unfolding node_of
    moved_branch size end b e q m s x l p = record {
      chain = l;
      spells = Spells.after_branch (node_is (Construct.Alternative size) e) (subst (λ (ks : List ℕ). b ∈ ks) (all_parts (Construct.Alternative size) end e q) m) (here s p);
      longer = λ n. refl;
    }

    pub moved_case : (size end b : ℕ) → construct_at ws i ≡ Construct.Switch size → end ≡ i + size_of (construct_at ws i) → b ∈ siblings ws (i + 1) end → is ≡ [] → Moved ws is (after i) (after b) []
    unfolding node_of
    moved_case size end b e q m s x l p = record {
      chain = l;
      spells = Spells.after_case (node_is (Construct.Switch size) e) (subst (λ (ks : List ℕ). b ∈ ks) (all_parts (Construct.Switch size) end e q) m) (here s p);
      longer = λ n. refl;
    }

    pub moved_member : (size end m : ℕ) (before : List ℕ) → construct_at ws i ≡ Construct.Concatenation size → end ≡ i + size_of (construct_at ws i)
        → siblings ws (i + 1) end ≡ before ++ siblings ws m end → siblings ws m end ≡ m ∷ is → Moved ws is (after i) (after m) []
    unfolding node_of
    moved_member size end m before e q a b x l p = record {
      chain = l;
      spells =
          Spells.after_member before is
          (node_is (Construct.Concatenation size) e ∙ ap concatenation (sym (all_parts (Construct.Concatenation size) end e q) ∙ a ∙ ap (λ (ks : List ℕ). before ++ ks) b)) p;
      longer = λ n. refl;
    }

-- the parts after a part
pub others : (ws : List ℕ) (end m size : ℕ) (is : List ℕ) → m < end → size ≡ size_of (construct_at ws m) → (size ≡ 0 → ⊥) → is ≡ siblings ws (m + size) end ++ [] → siblings ws m end ≡ m ∷ is
others ws end m size is h e z s =
    siblings_next ws end m h (λ q. z (e ∙ q)) ∙ ap (λ (k : ℕ). m ∷ siblings ws (m + k) end) (sym e) ∙ ap (λ (ks : List ℕ). m ∷ ks) (sym (s ∙ append-nil (siblings ws (m + size) end)))

-- the walk goes on to the next part
pub step_part : (ws : List ℕ) (end at size : ℕ) → at < end → size ≡ size_of (construct_at ws at) → (size ≡ 0 → ⊥) → siblings ws at end ≡ at ∷ siblings ws (at + size) end
step_part ws end at size h e z = siblings_next ws end at h (λ q. z (e ∙ q)) ∙ ap (λ (k : ℕ). at ∷ siblings ws (at + k) end) (sym e)

pub further_part : (ws : List ℕ) (start end at size : ℕ) (before : List ℕ) → at < end → size ≡ size_of (construct_at ws at) → (size ≡ 0 → ⊥)
    → siblings ws start end ≡ before ++ siblings ws at end → siblings ws start end ≡ (before ++ at ∷ []) ++ siblings ws (at + size) end
further_part ws start end at size before h e z s =
    s ∙ ap (λ (is : List ℕ). before ++ is) (step_part ws end at size h e z) ∙ sym (append_assoc before (at ∷ []) (siblings ws (at + size) end))

-- no row is no construct
pub bottom : (ws items : List ℕ) (depth : ℕ) → depth ≡ 0 → stack ws items depth ≡ []
unfolding stack
bottom ws items depth e = ap (stack ws items) e

-- what is followed now, by its number and 1
pub moved_to : (ws is : List ℕ) (p q r : ℕ) (more : List Step) → r ≡ q + 1 → Moved ws is (after p) (after q) more → Moved ws is (after p) (after (r - 1)) more
moved_to ws is p q r more e m = let z : q ≡ r - 1 = omega arith in subst (λ (k : ℕ). Moved ws is (after p) (after k) more) z m
