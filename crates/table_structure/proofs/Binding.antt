-- Variables, of laid out words: each is bound by a top member of its rule, and used only behind its binder and in its rule.
-- Assumes nothing.
use Prim.Native.Nat.{ℕ, zero, suc, ◌+◌, ◌*◌, ◌-◌, ◌≤◌, ◌<◌}
use mathlib.Core.Path.{◌≡◌, refl, sym, subst, ap, ◌∙◌}
use mathlib.Core.Logic.{inl, inr}
use mathlib.Core.Bool.{Bool, true, false, cond, ◌&&◌}
use mathlib.Core.List.Memᴰ
use mathlib.Core.List.{List, [], ◌∷◌}
use native.Mathlib.Omega.{arith}
use borrow.Author.Tests.{ltb-true, ltb-false, leb-true, eqb-true, eqb-false, ne_eqb}
use lib.Dec.{ltb, leb, eqb}
use Rattle.basis.proofs.Booleans.{which, both_first, both_second}
use Rattle.term_words.specs.Words.{term_at}
use Rattle.term_words.specs.declared.Operation.{Operation}
use Rattle.term_words.specs.declared.Term.{Term}
use Rattle.table_layout.specs.Places.{variables_at, rule_count, construct_count, variable_count, rule_word, variable_word, construct_word}
use Rattle.table_layout.specs.Constructs.{construct_at}
use Rattle.table_layout.specs.Held.{size_of, term_words, parts}
use Rattle.table_layout.specs.declared.Construct.{Construct}
use Rattle.table_layout.proofs.Views.{Parted, missing, branches, members, body as one-part, cases, opens, leaf, parted, Operands, counts, characters, set, plain, operands}
use Rattle.theory.specs.Grammar.{◌∈◌}
use Rattle.table_wellformed.specs.Checks.{all_zero, size_at, walk}
use Rattle.term_words.specs.declared.Kind.{Kind}
use Rattle.table_wellformed.specs.Lists.{own_start, own_end, list_formed}
use Rattle.table_wellformed.specs.Laid.{kind_laid}
use Rattle.table_wellformed.specs.Rules.{body, rule_end, binder_of, named_back, sign_word, variable_laid, binds, member_laid, next_variable, is_concatenation, members_at, visible, operation_named, term_named, list_named, construct_named}
use Rattle.table_wellformed.proofs.Walks.{one_step, at_once}
use Rattle.table_structure.proofs.Facts.{Laid, each, lt_of_ne}
use Rattle.table_structure.proofs.Tiles.{Tiles, none, more}
use Rattle.table_structure.proofs.PartLaws.{Tiled}
use Rattle.table_structure.proofs.Tilings.{tiled}
use Rattle.table_structure.proofs.RuleLaws.{next_begins, last_ends, rule_fact, rule_within}
use Rattle.term_evaluation.proofs.Reading.{OperationReads, TermReads, Reads}

-- variable x is bound by one of these constructs
pub record Bound (ws : List ℕ) (js : List ℕ) (x : ℕ) : Type 0 where
  pub listed : variable_word ws x 0 ∈ js
  pub binder : binder_of (construct_at ws (variable_word ws x 0)) ≡ x + 1
  pub width : variable_word ws x 1 ≡ construct_word ws (variable_word ws x 0) 2
  pub sign : variable_word ws x 2 ≡ sign_word (construct_at ws (variable_word ws x 0))
  pub unused : all_zero ws (variables_at + 4 * x + 3) (variables_at + 4 * x + 4) ≡ true

later : {ws : List ℕ} {j : ℕ} {js : List ℕ} {x : ℕ} → Bound ws js x → Bound ws (j ∷ js) x
later b = record { listed = Memᴰ.tail b.listed; binder = b.binder; width = b.width; sign = b.sign; unused = b.unused }

here : (ws : List ℕ) (j : ℕ) (js : List ℕ) (x : ℕ) → variable_laid ws x j ≡ true → Bound ws (j ∷ js) x
here ws j js x v =
    let B : Bool = eqb (binder_of (construct_at ws j)) (x + 1)
    in let P : Bool = eqb (variable_word ws x 0) j
    in let W : Bool = eqb (variable_word ws x 1) (construct_word ws j 2)
    in let S : Bool = eqb (variable_word ws x 2) (sign_word (construct_at ws j))
    in let Z : Bool = all_zero ws (variables_at + 4 * x + 3) (variables_at + 4 * x + 4)
    in let front : (B && P) ≡ true = both_first (B && P) ((W && S) && Z) v
    in let back : ((W && S) && Z) ≡ true = both_second (B && P) ((W && S) && Z) v
    in let words : (W && S) ≡ true = both_first (W && S) Z back
    in let place : variable_word ws x 0 ≡ j = eqb-true (variable_word ws x 0) j (both_second B P front)
    in record {
      listed = Memᴰ.head place;
      binder = ap (λ (k : ℕ). binder_of (construct_at ws k)) place ∙ eqb-true (binder_of (construct_at ws j)) (x + 1) (both_first B P front);
      width = eqb-true (variable_word ws x 1) (construct_word ws j 2) (both_first W S words) ∙ sym (ap (λ (k : ℕ). construct_word ws k 2) place);
      sign = eqb-true (variable_word ws x 2) (sign_word (construct_at ws j)) (both_second W S words) ∙ sym (ap (λ (k : ℕ). sign_word (construct_at ws k)) place);
      unused = both_second (W && S) Z back;
    }

module _ (ws : List ℕ) (end last : ℕ) where
  abbrev Walked : ℕ → ℕ → ℕ → Type 0
  Walked n j x = walk n ws (member_laid ws) (next_variable ws) (λ k y. eqb y last) end j x ≡ true

  -- a member that binds, and one that does not
  binding : (j x : ℕ) → member_laid ws j x ≡ true → binds ws j ≡ true → (variable_laid ws x j ≡ true) × (next_variable ws j x ≡ x + 1)
  binding j x m b = (rw b at m, rw b)

  passing : (j x : ℕ) → binds ws j ≡ false → next_variable ws j x ≡ x
  passing j x b = rw b

  done : (n j x y : ℕ) → Walked n j x → end ≤ j → x ≤ y → y < last → ⊥
  done n j x y w h low high = let e : x ≡ last = eqb-true x last (sym (at_once ws (member_laid ws) (next_variable ws) (λ k z. eqb z last) end n j x h) ∙ w) in omega arith

  turn : (n j x y : ℕ) (js : List ℕ) → Walked (suc n) j x → j < end → x ≤ y → y < last
      → ((x' : ℕ) → Walked n (j + size_at ws j) x' → x' ≤ y → Bound ws js y) → Bound ws (j ∷ js) y
  turn n j x y js w h low high on =
      elim (which (ltb 0 (size_at ws j) && member_laid ws j x)) [
        | inl t ↦
            let m : member_laid ws j x ≡ true = both_second (ltb 0 (size_at ws j)) (member_laid ws j x) t
            in let rest : Walked n (j + size_at ws j) (next_variable ws j x) = sym (one_step ws (member_laid ws) (next_variable ws) (λ k z. eqb z last) end n j x true h t) ∙ w
            in elim (which (binds ws j)) [
              | inl b ↦
                  elim (which (eqb x y)) [
                    | inl s ↦ let e : x ≡ y = eqb-true x y s in rw e at (here ws j js x (binding j x m b).0)
                    | inr s ↦ later (on (x + 1) (rw (binding j x m b).1 at rest) (lt_of_ne x y low (eqb-false x y s)))
                  ]
              | inr b ↦ later (on x (rw (passing j x b) at rest) low)
            ]
        | inr t ↦
            let z : false ≡ true = sym (one_step ws (member_laid ws) (next_variable ws) (λ k z. eqb z last) end n j x false h t) ∙ w
            in let c : ◌≡◌ {A = ℕ} 0 1 = cc in absurd (omega arith)
      ]

  bound_from : {check : ℕ → Bool} (n j x y : ℕ) {js : List ℕ} → Tiles ws check end j js → end ≤ j + n → Walked n j x → x ≤ y → y < last → Bound ws js y
  bound_from n j x y (none e) enough w low high = absurd (done n j x y w (omega arith) low high)
  bound_from zero j x y (more h positive c e rest) enough w low high = absurd (omega arith)
  bound_from (suc n) j x y (more {k = k} {js = js} h positive c e rest) enough w low high =
      turn n j x y js w h low high (λ x' w' low'. bound_from n k x' y rest (omega arith) (rw (sym e) at w') low' high)

-- ---- the constructs of a rule that may bind

abbrev pub top_members : List ℕ → ℕ → Construct → List ℕ
top_members ws i c = cond (is_concatenation c) (parts (size_of c) ws (i + 1) (i + size_of c)) (i ∷ [])

-- of rule r
abbrev pub members_of : List ℕ → ℕ → List ℕ
members_of ws r = top_members ws (body ws r) (construct_at ws (body ws r))

loosely : {ws : List ℕ} {check : ℕ → Bool} {end j : ℕ} {js : List ℕ} → Tiles ws check end j js → Tiles ws (λ k. true) end j js
loosely (none e) = none e
loosely (more h positive c e rest) = more h positive refl e (loosely rest)

alone : (ws : List ℕ) (i end : ℕ) → i < end → i + size_at ws i ≡ end → Tiles ws (λ k. true) end i (i ∷ [])
alone ws i end h e = more h (omega arith) refl refl (none e)

top_tiles : (ws : List ℕ) (i end : ℕ) {c : Construct} → Parted c → Tiled ws i c → size_at ws i ≡ size_of c → i < end → i + size_at ws i ≡ end
    → Tiles ws (λ k. true) end (cond (is_concatenation c) (i + 1) i) (top_members ws i c)
top_tiles ws i end missing t s h e = alone ws i end h e
top_tiles ws i end (branches size) t s h e = alone ws i end h e
top_tiles ws i end (members size) t s h e = let f : i + size ≡ end = omega arith in subst (λ (z : ℕ). Tiles ws (λ k. true) z (i + 1) (parts size ws (i + 1) (i + size))) f (loosely t)
top_tiles ws i end (one-part size passes) t s h e = alone ws i end h e
top_tiles ws i end (cases size) t s h e = alone ws i end h e
top_tiles ws i end (opens rule) t s h e = alone ws i end h e
top_tiles ws i end (leaf f) t s h e = rw f.below (alone ws i end h e)

-- ---- uses

-- what construct i of rule r may use
pub record Visible (ws : List ℕ) (r i y : ℕ) : Type 0 where
  pub first : rule_word ws r 1 ≤ y
  pub last : y < rule_end ws r 1
  pub earlier : variable_word ws y 0 < i

seen : (ws : List ℕ) (r i y : ℕ) → visible ws (rule_word ws r 1) (rule_end ws r 1) i y ≡ true → Visible ws r i y
seen ws r i y h =
    let L : Bool = ltb y (rule_end ws r 1)
    in let F : Bool = leb (rule_word ws r 1) y
    in let E : Bool = ltb (variable_word ws y 0) i
    in let rest : (F && E) ≡ true = both_second L (F && E) h
    in record { first = leb-true (rule_word ws r 1) y (both_first F E rest); last = ltb-true y (rule_end ws r 1) (both_first L (F && E) h); earlier = ltb-true (variable_word ws y 0) i (both_second F E rest) }

operation_seen : (ws : List ℕ) (r i : ℕ) (o : Operation) → operation_named ws (rule_word ws r 1) (rule_end ws r 1) i o ≡ true → OperationReads (Visible ws r i) o
operation_seen ws r i (Operation.Number n) h = tt
operation_seen ws r i (Operation.Variable y) h = seen ws r i y h
operation_seen ws r i Operation.Add h = tt
operation_seen ws r i Operation.Subtract h = tt
operation_seen ws r i Operation.Multiply h = tt
operation_seen ws r i Operation.Negate h = tt
operation_seen ws r i Operation.Unknown h = tt

term_seen : (ws : List ℕ) (r i : ℕ) (x : Term) → term_named ws (rule_word ws r 1) (rule_end ws r 1) i x ≡ true → TermReads (Visible ws r i) x
term_seen ws r i (Term.Part o) h = operation_seen ws r i o h
term_seen ws r i (Term.Single o) h = operation_seen ws r i o h
term_seen ws r i Term.All h = tt
term_seen ws r i Term.Range h = tt
term_seen ws r i Term.From h = tt
term_seen ws r i Term.UpTo h = tt
term_seen ws r i Term.Or h = tt
term_seen ws r i Term.Except h = tt
term_seen ws r i Term.And h = tt
term_seen ws r i (Term.Compare k) h = tt
term_seen ws r i Term.Bad h = tt

list_seen : (ws : List ℕ) (r i start end : ℕ) → list_named ws (rule_word ws r 1) (rule_end ws r 1) i start end ≡ true → Reads (Visible ws r i) (term_words ws) start end
list_seen ws r i start end h t low high =
    term_seen ws r i (term_at (term_words ws) t) (each (λ u. term_named ws (rule_word ws r 1) (rule_end ws r 1) i (term_at (term_words ws) u)) end start t h low high)

module _ {ws : List ℕ} (l : Laid ws) where
  pub members_tile : (r : ℕ) → r < rule_count ws → Tiles ws (λ k. true) (rule_end ws r 0) (members_at ws r) (members_of ws r)
  members_tile r h =
      let f = rule_fact l r h
      in top_tiles ws (body ws r) (rule_end ws r 0) (parted (construct_at ws (body ws r))) (tiled l (body ws r) (omega (arith, rule_within l r h, f.some_construct))) refl f.some_construct f.ends

  -- each variable of rule r is bound by a member of its top concatenation, or by its body
  pub bound_in : (r x : ℕ) → r < rule_count ws → rule_word ws r 1 ≤ x → x < rule_end ws r 1 → Bound ws (members_of ws r) x
  bound_in r x h low high = bound_from ws (rule_end ws r 0) (rule_end ws r 1) (rule_end ws r 0 - members_at ws r) (members_at ws r) (rule_word ws r 1) x (members_tile r h) (omega arith) (l.binders r h) low high

  named : (r i : ℕ) → r < rule_count ws → body ws r ≤ i → i < rule_end ws r 0 → construct_named ws (rule_word ws r 1) (rule_end ws r 1) i ≡ true
  named r i h low high = each (construct_named ws (rule_word ws r 1) (rule_end ws r 1)) (rule_end ws r 0) (body ws r) i (l.uses r h) low high

  -- what the condition of construct i uses, and what its own list does
  pub condition_reads : (r i : ℕ) → r < rule_count ws → body ws r ≤ i → i < rule_end ws r 0 → Reads (Visible ws r i) (term_words ws) (construct_word ws i 6) (construct_word ws i 7)
  condition_reads r i h low high =
      list_seen ws r i (construct_word ws i 6) (construct_word ws i 7)
      (both_first (list_named ws (rule_word ws r 1) (rule_end ws r 1) i (construct_word ws i 6) (construct_word ws i 7))
      (list_named ws (rule_word ws r 1) (rule_end ws r 1) i (own_start (construct_at ws i)) (own_end (construct_at ws i))) (named r i h low high))

  pub own_reads : (r i : ℕ) → r < rule_count ws → body ws r ≤ i → i < rule_end ws r 0 → Reads (Visible ws r i) (term_words ws) (own_start (construct_at ws i)) (own_end (construct_at ws i))
  own_reads r i h low high =
      list_seen ws r i (own_start (construct_at ws i)) (own_end (construct_at ws i))
      (both_second (list_named ws (rule_word ws r 1) (rule_end ws r 1) i (construct_word ws i 6) (construct_word ws i 7))
      (list_named ws (rule_word ws r 1) (rule_end ws r 1) i (own_start (construct_at ws i)) (own_end (construct_at ws i))) (named r i h low high))

-- ---- binders: each is a top member of its rule

-- the rule of variable x
pub record VariableOf (ws : List ℕ) (x : ℕ) : Type 0 where
  pub rule : ℕ
  pub exists : rule < rule_count ws
  pub begins : rule_word ws rule 1 ≤ x
  pub ends : x < rule_end ws rule 1

-- what a binder's own words give: its variable names it back
back : (ws : List ℕ) (k : ℕ) {c : Construct} → Operands c → kind_laid ws k c ≡ true → 0 < binder_of c → (binder_of c ≤ variable_count ws) × (variable_word ws (binder_of c - 1) 0 ≡ k)
back ws k (counts size start end) h b = absurd (omega arith)
back ws k (characters length) h b = absurd (omega arith)
back ws k (set signed width start end binder) h b =
    let N : Bool = leb binder (variable_count ws)
    in let P : Bool = eqb (variable_word ws (binder - 1) 0) k
    in let some : eqb binder 0 ≡ false = ne_eqb binder 0 (λ e. omega arith)
    in let named : (N && P) ≡ true = rw some at (both_first (named_back ws k binder) (list_formed Kind.Set ws start end) h)
    in (leb-true binder (variable_count ws) (both_first N P named), eqb-true (variable_word ws (binder - 1) 0) k (both_second N P named))
back ws k (plain p) h b = absurd (omega (arith, p.binder))

-- construct k is one of the constructs that may bind, of the rule of its variable
pub record TopBinder (ws : List ℕ) (k : ℕ) : Type 0 where
  pub variable : ℕ
  pub own : VariableOf ws variable
  pub binder : binder_of (construct_at ws k) ≡ variable + 1
  pub place : variable_word ws variable 0 ≡ k
  pub member : k ∈ members_of ws own.rule

module _ {ws : List ℕ} (l : Laid ws) where
  search_from : (n r x : ℕ) → r + n ≡ rule_count ws → r < rule_count ws → rule_word ws r 1 ≤ x → x < variable_count ws → VariableOf ws x
  search_from zero r x e h low high = absurd (omega arith)
  search_from (suc n) r x e h low high =
      elim (which (ltb x (rule_end ws r 1))) [
        | inl t ↦ record { rule = r; exists = h; begins = low; ends = ltb-true x (rule_end ws r 1) t }
        | inr t ↦
            let past : rule_end ws r 1 ≤ x = ltb-false x (rule_end ws r 1) t
            in elim (which (ltb (r + 1) (rule_count ws))) [
              | inl s ↦ let more : r + 1 < rule_count ws = ltb-true (r + 1) (rule_count ws) s in search_from n (r + 1) x (omega arith) more (omega (arith, next_begins ws r 1 more)) high
              | inr s ↦
                  let last : rule_count ws ≤ r + 1 = ltb-false (r + 1) (rule_count ws) s
                  in let ends : rule_end ws r 1 ≡ variable_count ws = last_ends ws r 1 last
                  in absurd (omega arith)
            ]
      ]

  pub variable_of : (x : ℕ) → x < variable_count ws → VariableOf ws x
  variable_of x h = search_from (rule_count ws) 0 x (omega arith) l.counts.some_rule (omega (arith, l.start_variables)) h

  -- "A binder is the whole body of a rule or a member of its top concatenation"
  pub top_binder : (k : ℕ) → k < construct_count ws → 0 < binder_of (construct_at ws k) → TopBinder ws k
  top_binder k h b =
      let named = back ws k (operands (construct_at ws k)) (l.kind k h) b
      in let x : ℕ = binder_of (construct_at ws k) - 1
      in let own : VariableOf ws x = variable_of x (omega (arith, named.0))
      in record {
        variable = x;
        own = own;
        binder = omega arith;
        place = named.1;
        member = rw named.1 at (bound_in l own.rule x own.exists own.begins own.ends).listed;
      }
