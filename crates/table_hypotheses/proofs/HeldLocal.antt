-- The grammar that words hold is read from the words below the sets, and not from the weight.
-- Assumes nothing.
use Prim.Native.Nat.{ℕ, zero, suc, ◌+◌, ◌*◌, ◌-◌, ◌/◌, ◌%◌, ◌^◌, ◌≤◌, ◌<◌}
use mathlib.Core.Path.{◌≡◌, refl, sym, ap, ◌∙◌}
use mathlib.Core.Logic.{inl, inr}
use mathlib.Core.Bool.{true, false, cond}
use mathlib.Core.List.{List, [], ◌∷◌}
use mathlib.Core.Option.{some}
use native.Mathlib.Omega.{arith}
use borrow.Author.Tests.{ltb-true}
use lib.Dec.{ltb, eqb}
use lib.IntN.{pos}
use lib.ListN.{length, drop, replicate, length-take, length-drop}
use lib.Seq.{ext_get_or, get_or-take, get_or-drop}
use Rattle.basis.specs.Limits.{max_rules, max_constructs, max_variables, max_terms, max_literal_bytes}
use Rattle.basis.specs.Patterns.{pattern_value}
use Rattle.basis.specs.Counts.{zero_or_more}
use Rattle.basis.proofs.Booleans.{which}
use Rattle.term_words.specs.Words.{term_at, terms}
use Rattle.term_evaluation.specs.Meaning.{membership, condition}
use Rattle.term_evaluation.specs.Counts.{counts, form_of}
use Rattle.term_evaluation.specs.Variables.{has_variable}
use Rattle.theory.specs.Grammar.{alternative, concatenation, repetition, switch, use_of, field}
use Rattle.table_layout.specs.Places.{rule_word, variable_word, construct_word, terms_at, rules_at, variables_at, constructs_at, literals_at}
use Rattle.table_layout.specs.Constructs.{construct_at}
use Rattle.table_layout.specs.Held.{first_context, Values, term_words, size_of, parts, is_yes, passes_allowed, passes_static, passes_fixed, first_case, no_default, literal_byte, literal_bytes, literal_node, bound, use_node, node_of, opening, held, allowed, is_exact}
use Rattle.table_layout.specs.declared.Construct.{Construct}
use Rattle.table_layout.specs.declared.Passes.{Passes}
use Rattle.table_layout.proofs.Bounds.{Fine, fine}
use Rattle.table_hypotheses.specs.OneTable.{Alike}

module _ {ws ws' : List ℕ} (a : Alike ws ws') where
  -- ---- words

  pub construct_words : (i k : ℕ) → i < max_constructs → k < 8 → construct_word ws i k ≡ construct_word ws' i k
  construct_words i k h l = a.same (constructs_at + 8 * i + k) (omega arith) (λ e. omega arith)

  pub rule_words : (r k : ℕ) → r < max_rules → k < 4 → rule_word ws r k ≡ rule_word ws' r k
  rule_words r k h l = a.same (rules_at + 4 * r + k) (omega arith) (λ e. omega arith)

  pub variable_words : (x k : ℕ) → x < max_variables → k < 4 → variable_word ws x k ≡ variable_word ws' x k
  variable_words x k h l = a.same (variables_at + 4 * x + k) (omega arith) (λ e. omega arith)

  pub constructs_same : (i : ℕ) → construct_at ws i ≡ construct_at ws' i
  unfolding construct_at
  constructs_same i =
      elim (which (ltb i max_constructs)) [
        | inl t ↦
            let h : i < max_constructs = ltb-true i max_constructs t in
            rw (t, construct_words i 0 h (omega arith), construct_words i 1 h (omega arith), construct_words i 2 h (omega arith), construct_words i 3 h (omega arith), construct_words i 4 h (omega arith), construct_words i 5 h (omega arith))
        | inr t ↦ rw t
      ]

  pub terms_same : term_words ws ≡ term_words ws'
  terms_same =
      let m : length (term_words ws) ≡ (3 * max_terms) = length-take (3 * max_terms) (drop terms_at ws) ∙ omega (arith, length-drop terms_at ws, a.long) in
      let n : length (term_words ws') ≡ (3 * max_terms) = length-take (3 * max_terms) (drop terms_at ws') ∙ omega (arith, length-drop terms_at ws', a.long') in
      ext_get_or 0 (term_words ws) (term_words ws') (m ∙ sym n)
      (λ i h.
      get_or-take (3 * max_terms) (drop terms_at ws) i 0 (omega arith) ∙ get_or-drop terms_at ws i 0 ∙ a.same (terms_at + i) (omega arith) (λ e. omega arith)
      ∙ sym (get_or-drop terms_at ws' i 0) ∙ sym (get_or-take (3 * max_terms) (drop terms_at ws') i 0 (omega arith)))

  -- ---- nodes

  pub parts_same : (n j end : ℕ) → parts n ws j end ≡ parts n ws' j end
  unfolding parts
  parts_same zero j end = refl
  parts_same (suc n) j end =
      λ t. elim (ltb j end)
      [ true ↦ j ∷ elim (eqb (size_of (constructs_same j t)) 0) [ true ↦ [] | false ↦ parts_same n (j + size_of (constructs_same j t)) end t ] | false ↦ [] ]

  -- all numbers of the list are constructs'
  abbrev Small : List ℕ → Type 0
  Small [] = Unit {0}
  Small (b ∷ bs) = (b < max_constructs) × Small bs

  small_parts : (n j end : ℕ) → end ≤ max_constructs → Small (parts n ws j end)
  unfolding parts
  small_parts zero j end h = tt
  small_parts (suc n) j end h =
      elim (which (ltb j end)) [
        | inl t ↦
            let l : j < max_constructs = omega (arith, ltb-true j end t) in
            elim (which (eqb (size_of (construct_at ws j)) 0)) [
              | inl s ↦ rw (t, s, parts) (l, tt)
              | inr s ↦ rw (t, s, parts) (l, small_parts n (j + size_of (construct_at ws j)) end h)
            ]
        | inr t ↦ rw (t, parts) tt
      ]

  case_same : (v : Values) (bs : List ℕ) → Small bs → first_case ws v bs ≡ first_case ws' v bs
  unfolding first_case
  case_same v [] s = refl
  case_same v (b ∷ bs) (h, s) =
      let from = construct_words b 6 h (omega arith) in
      let upto = construct_words b 7 h (omega arith) in
      λ t. elim (ltb (from t) (upto t))
      [ true ↦ elim (is_yes (condition v (from t) (terms (terms_same t) (from t) (upto t)))) [ true ↦ some b | false ↦ case_same v bs s t ] | false ↦ some b ]

  default_same : (bs : List ℕ) → Small bs → no_default ws bs ≡ no_default ws' bs
  unfolding no_default
  default_same [] s = refl
  default_same (b ∷ bs) (h, s) =
      let from = construct_words b 6 h (omega arith) in
      let upto = construct_words b 7 h (omega arith) in λ t. elim (ltb (from t) (upto t)) [ true ↦ default_same bs s t | false ↦ false ]

  pub allowed_same : (p : Passes) (v : Values) → passes_allowed ws p v ≡ passes_allowed ws' p v
  allowed_same Passes.Optional v = refl
  allowed_same Passes.Any v = refl
  allowed_same Passes.Some v = refl
  allowed_same (Passes.Counted start end) v = λ t. allowed (counts v (terms_same t) start end)

  static_same : (p : Passes) → passes_static ws p ≡ passes_static ws' p
  static_same Passes.Optional = refl
  static_same Passes.Any = refl
  static_same Passes.Some = refl
  static_same (Passes.Counted start end) =
      ap (λ (w : List ℕ). cond (has_variable (terms w start end)) zero_or_more (allowed (counts [] w start end))) terms_same

  fixed_same : (p : Passes) → passes_fixed ws p ≡ passes_fixed ws' p
  fixed_same Passes.Optional = refl
  fixed_same Passes.Any = refl
  fixed_same Passes.Some = refl
  fixed_same (Passes.Counted start end) = λ t. is_exact (form_of (term_at (terms_same t) (end - 1)))

  pub literal_same : (i k : ℕ) → i < max_constructs → k < max_literal_bytes → literal_byte ws i k ≡ literal_byte ws' i k
  literal_same i k h l = ap (λ (w : ℕ). w / 2 ^ (8 * (k % 4)) % 256) (a.same (literals_at + 8 * i + k / 4) (omega arith) (λ e. omega arith))

  literals_same : (i k n : ℕ) → i < max_constructs → k + n ≤ max_literal_bytes → literal_bytes ws i k n ≡ literal_bytes ws' i k n
  unfolding literal_bytes
  literals_same i k zero h l = refl
  literals_same i k (suc n) h l = λ t. literal_same i k h (omega arith) t ∷ literals_same i (k + 1) n h (omega arith) t

  use_same : (r : ℕ) → r < max_rules → use_node ws r ≡ use_node ws' r
  use_same r h = λ t. use_of (λ c. some c) (λ c v. v) (λ v v'. v') (rule_words r 0 h (omega arith) t)

  node_same : (i : ℕ) (c : Construct) → Fine i c → node_of ws i c ≡ node_of ws' i c
  unfolding node_of
  node_same i Construct.Missing f = refl
  node_same i (Construct.Alternative size) f = λ t. alternative (parts_same size (i + 1) (i + size) t)
  node_same i (Construct.Concatenation size) f = λ t. concatenation (parts_same size (i + 1) (i + size) t)
  node_same i (Construct.Repetition size p) f = λ t. repetition (λ c v. allowed_same p v t) (static_same p t) (fixed_same p t) (i + 1)
  node_same i (Construct.Switch size) f =
      let first : (v : Values) → first_case ws v (parts size ws (i + 1) (i + size)) ≡ first_case ws' v (parts size ws' (i + 1) (i + size)) =
      λ v. case_same v (parts size ws (i + 1) (i + size)) (small_parts size (i + 1) (i + size) f.1) ∙ ap (first_case ws' v) (parts_same size (i + 1) (i + size)) in
      let optional : no_default ws (parts size ws (i + 1) (i + size)) ≡ no_default ws' (parts size ws' (i + 1) (i + size)) =
      default_same (parts size ws (i + 1) (i + size)) (small_parts size (i + 1) (i + size) f.1) ∙ ap (no_default ws') (parts_same size (i + 1) (i + size)) in
      λ t. switch (λ c v. first v t) (optional t) (parts_same size (i + 1) (i + size) t)
  node_same i (Construct.Use rule) f = use_same rule f.1
  node_same i (Construct.Literal n) f = ap literal_node (literals_same i 0 n f.0 (omega (arith, f.2)))
  node_same i (Construct.Range low high) f = refl
  node_same i (Construct.Uint signed width start end binder) f =
      ap (λ (w : List ℕ).
      field (λ bits. width) (λ c v bits. is_yes (membership v (pattern_value signed bits) start (terms w start end)))
      (λ bits. cond (has_variable (terms w start end)) true (is_yes (membership [] (pattern_value signed bits) start (terms w start end))))
      (λ c v bits. bound binder v (pattern_value signed bits))) terms_same
  node_same i Construct.Eod f = refl

  pub held_local : held ws ≡ held ws'
  unfolding held
  held_local =
      let nodes : (i : ℕ) → cond (eqb i opening) (use_node ws 0) (node_of ws i (construct_at ws i)) ≡ cond (eqb i opening) (use_node ws' 0) (node_of ws' i (construct_at ws' i)) =
      λ i t. cond (eqb i opening) (use_same 0 (omega arith) t) ((node_same i (construct_at ws i) (fine ws i) ∙ ap (node_of ws' i) (constructs_same i)) t) in
      λ t. record { node = λ i. nodes i t; start = opening; context = first_context; values = replicate max_variables (pos 0) }
