-- What a construct of laid out words reads and binds: where two lists of values are equally long and agree on the variables that it may
-- use, its set, its counts and its choice of a case are the same. (Lists of different lengths do not do: past a list's end a variable's use
-- is malformed, though `get_or` gives 0 there.)
-- Assumes nothing.
use Prim.Native.Nat.{ℕ, zero, suc, ◌≤◌, ◌<◌}
use mathlib.Core.Path.{◌≡◌, refl, ap, ◌∙◌}
use mathlib.Core.Bool.{Bool, true, false, cond}
use mathlib.Core.List.Memᴰ
use mathlib.Core.List.{List, [], ◌∷◌}
use mathlib.Core.Option.{Option, some}
use lib.Dec.{ltb}
use lib.IntN.{ℤ, pos}
use lib.ListN.{length, get_or, length-set}
use lib.Seq.{get_or-set_same, get_or-set_other}
use Rattle.term_words.specs.Numbers.{bounded, kept}
use Rattle.term_words.specs.Steps.{variable_of}
use Rattle.term_evaluation.specs.Meaning.{condition}
use Rattle.theory.specs.Grammar.{◌∈◌}
use Rattle.table_layout.specs.Places.{rule_count, construct_word}
use Rattle.table_layout.specs.Constructs.{construct_at}
use Rattle.table_layout.specs.Held.{Values, term_words, terms_of, is_yes, allowed, passes_allowed, first_case, in_set, bound}
use Rattle.table_layout.specs.declared.Construct.{Construct}
use Rattle.table_layout.specs.declared.Passes.{Passes}
use Rattle.table_wellformed.specs.Lists.{own_start, own_end}
use Rattle.table_wellformed.specs.Rules.{body, rule_end}
use Rattle.table_structure.proofs.Facts.{Laid}
use Rattle.term_evaluation.proofs.Reading.{Reads, Same, membership_same, condition_same, counts_same}
use Rattle.table_structure.proofs.Binding.{Visible, condition_reads, own_reads}
use Rattle.std.specs.Prelude.{Err}
use Rattle.term_words.specs.declared.TermError.{TermError}

-- two lists of values that are as long and agree on the variables of P
pub record Agreeing (P : ℕ → Type 0) (v v' : Values) : Type 0 where
  pub lengths : length v ≡ length v'
  pub values : (y : ℕ) → P y → get_or v y (pos 0) ≡ get_or v' y (pos 0)

pub agree_same : {P : ℕ → Type 0} {v v' : Values} → Agreeing P v v' → Same P v v'
unfolding variable_of
agree_same {P} {v} {v'} a y p s =
    ap (λ (n : ℕ). cond (ltb y n) (kept s (bounded (get_or v y (pos 0)))) (Err TermError.Malformed)) a.lengths
    ∙ ap (λ (z : ℤ). cond (ltb y (length v')) (kept s (bounded z)) (Err TermError.Malformed)) (a.values y p)

module _ {ws : List ℕ} (l : Laid ws) (r i : ℕ) (h : r < rule_count ws) (low : body ws r ≤ i) (high : i < rule_end ws r 0) where
  own_list : (c : Construct) → construct_at ws i ≡ c → Reads (Visible ws r i) (term_words ws) (own_start c) (own_end c)
  own_list c e = rw e at (own_reads l r i h low high)

  pub set_agrees : (signed : Bool) (width start end binder : ℕ) → construct_at ws i ≡ Construct.Uint signed width start end binder
      → (v v' : Values) → Agreeing (Visible ws r i) v v' → (n : ℤ) → in_set ws start end v n ≡ in_set ws start end v' n
  set_agrees signed width start end binder e v v' a n =
      ap is_yes (membership_same (Visible ws r i) v v' (agree_same a) (term_words ws) n start end (own_list (Construct.Uint signed width start end binder) e))

  pub passes_agree : (size : ℕ) (p : Passes) → construct_at ws i ≡ Construct.Repetition size p
      → (v v' : Values) → Agreeing (Visible ws r i) v v' → passes_allowed ws p v ≡ passes_allowed ws p v'
  passes_agree size Passes.Optional e v v' a = refl
  passes_agree size Passes.Any e v v' a = refl
  passes_agree size Passes.Some e v v' a = refl
  passes_agree size (Passes.Counted start end) e v v' a =
      ap allowed (counts_same (Visible ws r i) v v' (agree_same a) (term_words ws) start end (own_list (Construct.Repetition size (Passes.Counted start end)) e))

-- the condition of a case
pub condition_agrees : {ws : List ℕ} (l : Laid ws) (r b : ℕ) → r < rule_count ws → body ws r ≤ b → b < rule_end ws r 0 → (v v' : Values) → Agreeing (Visible ws r b) v v'
    → is_yes (condition v (construct_word ws b 6) (terms_of ws (construct_word ws b 6) (construct_word ws b 7)))
    ≡ is_yes (condition v' (construct_word ws b 6) (terms_of ws (construct_word ws b 6) (construct_word ws b 7)))
condition_agrees {ws} l r b h low high v v' a =
    ap is_yes (condition_same (Visible ws r b) v v' (agree_same a) (term_words ws) (construct_word ws b 6) (construct_word ws b 7) (condition_reads l r b h low high))

-- the case taken is the same where the conditions are
pub case_agrees : (ws : List ℕ) (v v' : Values) (bs : List ℕ)
    → ((b : ℕ) → b ∈ bs → is_yes (condition v (construct_word ws b 6) (terms_of ws (construct_word ws b 6) (construct_word ws b 7))) ≡ is_yes (condition v' (construct_word ws b 6) (terms_of ws (construct_word ws b 6) (construct_word ws b 7))))
    → first_case ws v bs ≡ first_case ws v' bs
unfolding first_case
case_agrees ws v v' [] a = refl
case_agrees ws v v' (x ∷ bs) a =
    let rest : first_case ws v bs ≡ first_case ws v' bs = case_agrees ws v v' bs (λ b m. a b (Memᴰ.tail m))
    in let here : is_yes (condition v (construct_word ws x 6) (terms_of ws (construct_word ws x 6) (construct_word ws x 7))) ≡ is_yes (condition v' (construct_word ws x 6) (terms_of ws (construct_word ws x 6) (construct_word ws x 7))) = a x (Memᴰ.head refl)
    in ap (λ (o : Option ℕ). elim (ltb (construct_word ws x 6) (construct_word ws x 7)) [ true ↦ elim (is_yes (condition v (construct_word ws x 6) (terms_of ws (construct_word ws x 6) (construct_word ws x 7)))) [ true ↦ some x | false ↦ o ] | false ↦ some x ]) rest
    ∙ ap (λ (t : Bool). elim (ltb (construct_word ws x 6) (construct_word ws x 7)) [ true ↦ elim t [ true ↦ some x | false ↦ first_case ws v' bs ] | false ↦ some x ]) here

-- ---- what a binder does to the values

pub bound_length : (binder : ℕ) (v : Values) (n : ℤ) → length (bound binder v n) ≡ length v
bound_length zero v n = refl
bound_length (suc x) v n = length-set v x n

pub bound_other : (x : ℕ) (v : Values) (n : ℤ) (y : ℕ) → (y ≡ x → ⊥) → get_or (bound (suc x) v n) y (pos 0) ≡ get_or v y (pos 0)
bound_other x v n y h = get_or-set_other v x y n (pos 0) h

pub bound_own : (x : ℕ) (v : Values) (n : ℤ) → x < length v → get_or (bound (suc x) v n) x (pos 0) ≡ n
bound_own x v n h = get_or-set_same v x n (pos 0) h
