-- The hypotheses of the theorems hold of the sheet's kinds of node.
-- Assumes nothing.
use Prim.Native.Nat.{ℕ, suc, ◌≤◌}
use native.Mathlib.Omega.{arith}
use mathlib.Core.Path.{◌≡◌, refl, subst, ap}
use mathlib.Core.Logic.{◌↔◌, inl, inr}
use mathlib.Core.Bool.{Bool, true, false, true≢false, false≢true}
use mathlib.Core.List.Memᴰ
use mathlib.Core.List.{List, [], ◌∷◌, map}
use mathlib.Core.Option.{some}
use lib.Dec.{eqb}
use lib.IntN.{ℤ, pos, negsuc}
use lib.ListN.{length}
use Rattle.basis.specs.Bits.{Bits}
use Rattle.basis.specs.Counts.{Allows, from, exactly}
use Rattle.basis.specs.Lookahead.{lookahead}
use Rattle.basis.proofs.Booleans.{which}
use Rattle.theory.specs.Grammar.{alternative, concatenation, field, ◌∈◌}
use Rattle.theory.specs.Derivation.{construct}
use Rattle.theory.specs.Lookahead.{Continues, Exits}
use Rattle.theory.specs.Machine.{Tests}
use Rattle.theory.specs.Scope.{Agree, Chain}
use Rattle.theory.specs.Hypotheses.{Hypotheses}
use Rattle.theory.specs.Weight.{weigh}
use Rattle.theory.proofs.Sheet.Samples.{store, Variables, SheetNode, SheetGrammar, uint, uint_var, repeated, starred, switch_on, one_of, Case, equals, first_true, bodies, nothing, opening_use, Sample, grammar_of, scope_of, weight_in, Meets}
use Rattle.theory.proofs.Inversion.{First-of, FirstBy, first_by, BindsBy, binds_by}
use Rattle.theory.proofs.NodeLaws.{Law, hypotheses}
use Rattle.theory.proofs.Weights.{has_room}
use Rattle.theory.proofs.Sheet.Sets.{Exactly, decides, apart, apart_true}
use Rattle.theory.proofs.Sheet.Scopes.{Names, top_names, field_names, binder_names, repetition_names, switch_names, alternative_names, lexical}
use Rattle.theory.proofs.Sheet.Numbers.{Listed, listed_map, each, weighs}

-- the case that a switch takes is one of its cases
first_true_listed : (k b : ℕ) (cases : List Case) → first_true k cases ≡ some b → b ∈ bodies cases
unfolding first_true bodies
first_true_listed k b [] e = let z : ◌≡◌ {A = ℕ} 0 1 = cc in absurd (omega arith)
first_true_listed k b (equals n body ∷ cases) e =
    elim (which (eqb k n)) [
      | inl t ↦ let q : some body ≡ some b = rw (t, first_true) at e in let r : b ≡ body = cc in Memᴰ.head r
      | inr t ↦ Memᴰ.tail (first_true_listed k b cases (rw (t, first_true) at e))
    ]

-- bits that there are do not begin with the empty string alone
some_bits : (bits : Bits) (w : ℕ) → length bits ≡ suc w → [] ≡ lookahead bits → ⊥
some_bits [] w l e = omega arith
some_bits (b ∷ bits) w l e = let z : ◌≡◌ {A = ℕ} 0 1 = cc in omega arith

-- `{n}` allows one number at most
exactly_once : (n : ℤ) (j k : ℕ) → Allows (exactly n) j → Allows (exactly n) k → j ≡ k
unfolding exactly
exactly_once (pos n) j k a b = omega arith
exactly_once (negsuc n) j k a b = absurd a

module _ (g : SheetGrammar) (tests : Tests) where
  -- `{n}` of a uint without a binder
  repeated_law : (n : Variables → ℤ) (i b w : ℕ) (member : ℕ → Bool) → g.node b ≡ uint (suc w) member → Law g tests i (repeated n b)
  unfolding exactly
  repeated_law n i b w member e =
      record {
        counts_static = λ c v k a. omega arith;
        fixed_once = λ q c v j k. exactly_once (n v) j k;
        no_empty_body = λ f. let (bits, l, s, z) = subst (λ (m : SheetNode). FirstBy g (construct b m) []) e (first_by g f) in some_bits bits w l z;
        keeps_counts =
            λ {c = c} {v = v} {v' = v'} d.
            ap (λ (u : Variables). exactly (n u)) (subst (λ (m : SheetNode). BindsBy g (construct b m) c v v') e (binds_by g d)).1;
        continues_exact = λ q. absurd (true≢false q);
        exits_exact = λ q. absurd (true≢false q);
        no_conflict = λ q. absurd (true≢false q);
      }

  -- `*`, whose continue and exit sets are these
  pub starred_law : (i b : ℕ) (first go stop : List Bits) → Exactly (First-of g b) first → Exactly (Continues g i b) go → Exactly (Exits g i) stop
      → (λ x. one_of go x) ≡ tests.continues i → (λ x. one_of stop x) ≡ tests.exits i → apart first ([] ∷ []) ≡ true → apart go stop ≡ true
      → Law g tests i (starred b)
  starred_law i b first go stop exact continues exits e e' a d =
      record {
        counts_static = λ c v k h. h;
        fixed_once = λ q. absurd (false≢true q);
        no_empty_body = λ f. apart_true first ([] ∷ []) a [] ((exact []).0 f) (Memᴰ.head refl);
        keeps_counts = λ d. refl;
        continues_exact = λ q x h. subst (λ (t : Bits → Bool). (t x ≡ true) ↔ Continues g i b x) e (decides go continues x);
        exits_exact = λ q x h. subst (λ (t : Bits → Bool). (t x ≡ true) ↔ Exits g i x) e' (decides stop exits x);
        no_conflict = λ q x h k. apart_true go stop d x ((continues x).0 h) ((exits x).0 k);
      }

  nothing_law : (i : ℕ) → Law g tests i nothing
  nothing_law i = record { predicts_exact = λ b m. absurd (Memᴰ.not-nil m); no_conflict = λ a b m. absurd (Memᴰ.not-nil m) }

-- of a construct of a grammar: the hypotheses and its names
abbrev pub Right : Sample → ℕ → SheetNode → Type 0
Right s i n = Law (grammar_of s) s.tests i n × Names (scope_of s) i n

module _ (s : Sample) where
  pub top_right : (is : List ℕ) → (scope_of s).binds 0 ≡ [] → (scope_of s).sees 0 ≡ [] → Chain (scope_of s) ((scope_of s).sees 0) is → Right s 0 (concatenation is)
  top_right is e z k = (tt, top_names (scope_of s) 0 is e z k)

  pub field_right : (i w : ℕ) (p : Bits → Bool) → 1 ≤ w → (scope_of s).binds i ≡ [] → Right s i (field (λ bits. w) (λ c v bits. p bits) p (λ c v bits. v))
  field_right i w p h e = ((λ s. h, λ s r l. refl, λ c v bits q. q), field_names (scope_of s) i w p e)

  pub binder_right : (i x w : ℕ) (member : ℕ → Bool) → 1 ≤ w → (scope_of s).binds i ≡ x ∷ [] → (x ∈ (scope_of s).sees i → ⊥) → Right s i (uint_var x w member)
  binder_right i x w member h e d = ((λ s. h, λ s r l. refl, λ c v bits q. q), binder_names (scope_of s) i x w member e d)

  -- where n reads only what may be used there
  pub repeated_right : (n : Variables → ℤ) (i b w : ℕ) (member : ℕ → Bool) → (grammar_of s).node b ≡ uint (suc w) member
      → (scope_of s).binds i ≡ [] → (scope_of s).sees b ≡ (scope_of s).sees i → ((v v' : Variables) → Agree store tt ((scope_of s).sees i) v v' → n v ≡ n v') → Right s i (repeated n b)
  repeated_right n i b w member e z q reads = (
    repeated_law (grammar_of s) s.tests n i b w member e,
    repetition_names (scope_of s) i b (λ c v. exactly (n v)) (from 0) true z q (λ c v v' a. ap exactly (reads v v' a)),
  )

  pub starred_right : (i b : ℕ) → Law (grammar_of s) s.tests i (starred b) → (scope_of s).binds i ≡ [] → (scope_of s).sees b ≡ (scope_of s).sees i → Right s i (starred b)
  starred_right i b h z q = (h, repetition_names (scope_of s) i b (λ c v. from 0) (from 0) false z q (λ c v v' a. refl))

  pub switch_right : (i x : ℕ) (cases : List Case) → (scope_of s).binds i ≡ [] → ((b : ℕ) → b ∈ bodies cases → (scope_of s).sees b ≡ (scope_of s).sees i)
      → x ∈ (scope_of s).sees i → Right s i (switch_on x cases)
  switch_right i x cases z q m = (
    λ b c v e. first_true_listed (v x) b cases e,
    switch_names (scope_of s) i (λ c v. first_true (v x) cases) true (bodies cases) z q (λ c v b e. first_true_listed (v x) b cases e)
        (λ c v v' a. ap (λ (k : ℕ). first_true k cases) (a x m)),
  )

  pub alternative_right : (i : ℕ) (is : List ℕ) → Law (grammar_of s) s.tests i (alternative is) → (scope_of s).binds i ≡ []
      → ((b : ℕ) → b ∈ is → (scope_of s).sees b ≡ (scope_of s).sees i) → Right s i (alternative is)
  alternative_right i is h z q = (h, alternative_names (scope_of s) i is z q)

  -- a grammar all of whose constructs are right, and its weights
  pub meets : weigh (λ c. weight_in s) tt opening_use ≡ s.weight → map (weigh (λ c. weight_in s) tt) s.constructs ≡ s.weights
      → length s.binds ≡ length s.constructs → (scope_of s).sees 0 ≡ [] → Listed (Right s) s.constructs → Meets s
  unfolding grammar_of
  meets o e l z p =
      let h : Hypotheses (grammar_of s) s.tests =
      hypotheses (grammar_of s) s.tests
      (each opening_use nothing s.constructs (Law (grammar_of s) s.tests) (λ v v'. refl) (λ i h. nothing_law (grammar_of s) s.tests i)
      (listed_map (λ i n r. r.0) s.constructs p)) in
      record {
        hypotheses = h;
        weighs = weighs s o e;
        has_room = has_room (grammar_of s) (λ c. weight_in s) (weighs s o e);
        lexical = lexical s h l z (listed_map (λ i n r. r.1) s.constructs p);
      }
