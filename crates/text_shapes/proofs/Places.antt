-- Every place that is stored from a right text lies in the text: each terminal stands in the text, what waits carries only places of terminals, and
-- only such places are stored.
-- Assumes nothing.
use Prim.Native.Nat.{ℕ, zero, suc, ◌≤◌}
use mathlib.Core.Path.{◌≡◌, subst}
use mathlib.Core.Bool.{Bool, true, false, ◌&&◌}
use mathlib.Core.List.{List, [], ◌∷◌}
use native.Mathlib.Omega.{arith}
use lib.Dec.{ltb, eqb}
use lib.ListN.{length}
use Rattle.basis.specs.Limits.{max_nesting}
use Rattle.basis.proofs.Booleans.{picked}
use Rattle.text_header.proofs.Tests.{choice}
use Rattle.text_tokens.specs.Tokens.{token_of}
use Rattle.text_tokens.proofs.Bounds as bounds
use Rattle.text_parsing.specs.Terminals.{code_of, is, is_name, begins, terminal_of, terminals, terminals_from}
use Rattle.text_store.specs.Store.{State, state, nodes_of, terms_of, blank}
use Rattle.text_parsing.specs.Symbols.{Symbol, want, sign, paren, primary, operand, factors, summands, calculation, item, item_tail, bound, exception, excluded, alternative, alternatives, value_set, counts, counts_tail, test, comparison, condition, joined, chain, atom, factor, concatenation, expression, marked, counts_end, members, branches, character_tail, last_character, width, field_set, bound_name, field_end, colon, case_end, cases, switch_end, rules, rule_end}
use Rattle.text_parsing.specs.Form.{Consumed, go, done, fault, chained, within_depth, primary_begins, operand_begins, sum_tag, calculation_begins, item_begins, test_begins, comparison_tag, atom_begins, mark_of, consume, right, refused, run}
use Rattle.text_parsing.specs.declared.Terminal.{Terminal}
use Rattle.text_parsing.proofs.TerminalLaws as seeing
use Rattle.text_shapes.specs.Placed.{Placed}
use Rattle.text_store.proofs.Columns.{Bounded, blank_bounded, add_bounded, single_bounded, insert_bounded, leaf_bounded, condition_bounded, bind_bounded, rule_bounded}

chained_bounded : {most : ℕ} (kind : ℕ) (many : Bool) (p i : ℕ) (st : State) → p ≤ most → Bounded most st → Bounded most (chained kind many p i st)
chained_bounded kind true p i st h g = insert_bounded kind p i 0 0 0 0 0 st h (omega arith) g
chained_bounded kind false p i st h g = g

-- the places that a part carries to be stored
abbrev PlacedSymbol : ℕ → Symbol → Type 0
PlacedSymbol most (want _) = Unit {0}
PlacedSymbol most (sign _ p o) = (p ≤ most) × (o ≤ most)
PlacedSymbol most (paren _) = Unit {0}
PlacedSymbol most (primary o) = o ≤ most
PlacedSymbol most (operand o) = o ≤ most
PlacedSymbol most (factors o) = o ≤ most
PlacedSymbol most (summands o) = o ≤ most
PlacedSymbol most calculation = Unit {0}
PlacedSymbol most item = Unit {0}
PlacedSymbol most item_tail = Unit {0}
PlacedSymbol most (bound _ _ p) = p ≤ most
PlacedSymbol most (exception _) = Unit {0}
PlacedSymbol most (excluded _) = Unit {0}
PlacedSymbol most (alternative _) = Unit {0}
PlacedSymbol most (alternatives _) = Unit {0}
PlacedSymbol most (value_set _) = Unit {0}
PlacedSymbol most counts = Unit {0}
PlacedSymbol most counts_tail = Unit {0}
PlacedSymbol most (test _) = Unit {0}
PlacedSymbol most comparison = Unit {0}
PlacedSymbol most (condition _) = Unit {0}
PlacedSymbol most (joined _) = Unit {0}
PlacedSymbol most (chain _ _ _) = Unit {0}
PlacedSymbol most (atom _) = Unit {0}
PlacedSymbol most (factor _) = Unit {0}
PlacedSymbol most (concatenation _) = Unit {0}
PlacedSymbol most (expression _) = Unit {0}
PlacedSymbol most (marked p _) = p ≤ most
PlacedSymbol most (counts_end p _ mark _) = (p ≤ most) × (mark ≤ most)
PlacedSymbol most (members _ p _ _) = p ≤ most
PlacedSymbol most (branches _ p _ _) = p ≤ most
PlacedSymbol most (character_tail p) = p ≤ most
PlacedSymbol most (last_character p) = p ≤ most
PlacedSymbol most (width _ p) = p ≤ most
PlacedSymbol most (field_set _ p _) = p ≤ most
PlacedSymbol most (bound_name _ p _) = p ≤ most
PlacedSymbol most (field_end p _ name _ _) = (p ≤ most) × (name ≤ most)
PlacedSymbol most (colon _ _) = Unit {0}
PlacedSymbol most (case_end _ _ _) = Unit {0}
PlacedSymbol most (cases _ p _) = p ≤ most
PlacedSymbol most (switch_end p _) = p ≤ most
PlacedSymbol most (rules _) = Unit {0}
PlacedSymbol most (rule_end p _) = p ≤ most

data Waiting (most : ℕ) : List Symbol → Type 0 where
  empty : Waiting most []
  ◌and◌ : {k : Symbol} {ks : List Symbol} → PlacedSymbol most k → Waiting most ks → Waiting most (k ∷ ks)

infixr 40 ◌and◌
-- what a terminal that is handed on leaves
data Leaves (most : ℕ) : Consumed → Type 0 where
  goes : {st : State} {ks : List Symbol} → Bounded most st → Waiting most ks → Leaves most (go st ks)
  ends : {st : State} → Bounded most st → Leaves most (done st)
  faults : Leaves most fault

-- one way or the other, by a test
by_test : {most : ℕ} (t : Bool) {x y : Consumed} → Leaves most x → Leaves most y → Leaves most (elim t [ true ↦ x | false ↦ y ])
by_test {most} = choice (Leaves most)

-- ... or by the depth
deep : {most : ℕ} (d : ℕ) {x : Consumed} → Leaves most x → Leaves most (within_depth d x)
deep {most} d p = picked (Leaves most) (ltb d max_nesting) (λ e. p) (λ e. faults)

-- ---- a terminal

module _ {most : ℕ} (s : Terminal) (v : s.start ≤ most) where
  abbrev Handed : (State → List Symbol → Consumed) → Type 0
  Handed f = (st : State) (ks : List Symbol) → Bounded most st → Waiting most ks → Leaves most (f st ks)

  primary_placed : (o : ℕ) → o ≤ most → Handed (primary_begins o s)
  unfolding primary_begins
  primary_placed o h st ks g w =
      by_test (is 2 s) (goes (add_bounded 1 s.value s.start o st v h g) w)
      (by_test (is_name s) (goes (add_bounded 2 0 s.start o st v h g) w) faults)

  operand_placed : (o : ℕ) → o ≤ most → Handed (operand_begins o s)
  unfolding operand_begins
  operand_placed o h st ks g w = by_test (is 45 s) (goes g (h and (v, h) and w)) (primary_placed o h st ks g w)

  calculation_placed : Handed (calculation_begins s)
  calculation_placed st ks g w = operand_placed s.start v st (factors s.start ∷ summands s.start ∷ ks) g (v and v and w)

  item_placed : Handed (item_begins s)
  unfolding item_begins
  item_placed st ks g w = by_test (is 126 s) (goes g (v and w)) (calculation_placed st (item_tail ∷ ks) g (tt and w))

  test_placed : (d : ℕ) → Handed (test_begins d s)
  unfolding test_begins
  test_placed d st ks g w =
      by_test (is 40 s) (deep d (goes g (tt and tt and w))) (calculation_placed st (comparison ∷ ks) g (tt and w))

  atom_placed : (d : ℕ) → Handed (atom_begins d s)
  unfolding atom_begins
  atom_placed d st ks g w =
      picked P (is 3 s) (λ z. goes (leaf_bounded 6 s.start 0 0 0 0 st v g) w)
      (λ z₁. picked P (is 9 s) (λ z. goes g (v and w))
      (λ z₂. picked P (is 6 s) (λ z. goes g (tt and v and w))
      (λ z₃. picked P (is 7 s) (λ z. goes (leaf_bounded 9 s.start 0 0 0 0 st v g) w)
      (λ z₄. picked P (is_name s) (λ z. goes (leaf_bounded 5 s.start 0 0 0 0 st v g) w)
      (λ z₅. picked P (is 40 s) (λ z. deep d (goes g (tt and tt and w)))
      (λ z₆. picked P (is 91 s) (λ z. deep d (goes g (tt and tt and v and w))) (λ z₇. faults)))))))
    where
      P : Consumed → Type 0
      P = Leaves most

  consumed : (ks : List Symbol) (st : State) → Bounded most st → Waiting most ks → Leaves most (consume s st ks)
  unfolding consume
  consumed [] st g w = faults
  consumed (want k ∷ ks) st g (h and w) = by_test (is k s) (goes g w) faults
  consumed (sign tag p o ∷ ks) st g (h and w) = consumed ks _ (add_bounded tag 0 p o st h.0 h.1 g) w
  consumed (paren d ∷ ks) st g (h and w) = by_test (ltb d max_nesting) (by_test (is 40 s) (goes g w) faults) faults
  -- calculations
  consumed (primary o ∷ ks) st g (h and w) = primary_placed o h st ks g w
  consumed (operand o ∷ ks) st g (h and w) = operand_placed o h st ks g w
  consumed (factors o ∷ ks) st g (h and w) = by_test (is 42 s) (goes g (h and (v, h) and h and w)) (consumed ks st g w)
  consumed (summands o ∷ ks) st g (h and w) = by_test (eqb (sum_tag s.code) 0) (consumed ks st g w) (goes g (h and h and (v, h) and h and w))
  consumed (calculation ∷ ks) st g (h and w) = calculation_placed st ks g w
  -- sets
  consumed (item ∷ ks) st g (h and w) = item_placed st ks g w
  consumed (item_tail ∷ ks) st g (h and w) = by_test (is 126 s) (goes g (v and w)) (consumed ks _ (single_bounded st g) w)
  consumed (bound some none p ∷ ks) st g (h and w) = by_test (begins s) (calculation_placed st (sign some p 0 ∷ ks) g ((h, omega arith) and w)) (consumed ks _ (add_bounded none 0 p 0 st h (omega arith) g) w)
  consumed (exception d ∷ ks) st g (h and w) = by_test (is 33 s) (goes g (tt and (v, omega arith) and w)) (consumed ks st g w)
  consumed (excluded d ∷ ks) st g (h and w) = by_test (is 40 s) (deep d (goes g (tt and tt and w))) (item_placed st ks g w)
  consumed (alternative d ∷ ks) st g (h and w) = item_placed st (exception d ∷ ks) g (tt and w)
  consumed (alternatives d ∷ ks) st g (h and w) = by_test (is 124 s) (goes g (tt and (v, omega arith) and tt and w)) (consumed ks st g w)
  consumed (value_set d ∷ ks) st g (h and w) = item_placed st (exception d ∷ alternatives d ∷ ks) g (tt and tt and w)
  -- counts
  consumed (counts ∷ ks) st g (h and w) = by_test (is 126 s) (goes g (tt and (v, omega arith) and w)) (calculation_placed st (counts_tail ∷ ks) g (tt and w))
  consumed (counts_tail ∷ ks) st g (h and w) = by_test (is 126 s) (goes g (v and w)) (consumed ks st g w)
  -- conditions
  consumed (test d ∷ ks) st g (h and w) = test_placed d st ks g w
  consumed (comparison ∷ ks) st g (h and w) = by_test (eqb (comparison_tag s.code) 0) faults (goes g (tt and (v, omega arith) and w))
  consumed (condition d ∷ ks) st g (h and w) = test_placed d st (joined d ∷ ks) g (tt and w)
  consumed (joined d ∷ ks) st g (h and w) = by_test (is 38 s) (goes g (tt and (v, omega arith) and tt and w)) (by_test (is 124 s) (goes g (tt and (v, omega arith) and tt and w)) (consumed ks st g w))
  consumed (chain k tag d ∷ ks) st g (h and w) = by_test (is k s) (goes g (tt and (v, omega arith) and tt and w)) (consumed ks st g w)
  -- expressions
  consumed (atom d ∷ ks) st g (h and w) = atom_placed d st ks g w
  consumed (factor d ∷ ks) st g (h and w) = atom_placed d st (marked s.start (nodes_of st) ∷ ks) g (v and w)
  consumed (concatenation d ∷ ks) st g (h and w) = atom_placed d st (marked s.start (nodes_of st) ∷ members d s.start (nodes_of st) false ∷ ks) g (v and v and w)
  consumed (expression d ∷ ks) st g (h and w) = atom_placed d st (marked s.start (nodes_of st) ∷ members d s.start (nodes_of st) false ∷ branches d s.start (nodes_of st) false ∷ ks) g (v and v and v and w)
  consumed (marked p i ∷ ks) st g (h and w) =
      by_test (is 123 s) (goes g (tt and (h, v) and w))
      (by_test (eqb (mark_of s.code) 0) (consumed ks st g w) (goes (insert_bounded 3 p i (mark_of s.code) s.start 0 0 0 st h v g) w))
  consumed (counts_end p i mark f ∷ ks) st g (h and w) = by_test (is 125 s) (goes (insert_bounded 3 p i 4 mark f (terms_of st) 0 st h.0 h.1 g) w) faults
  consumed (members d p i many ∷ ks) st g (h and w) = by_test (is 38 s) (goes g (tt and h and w)) (consumed ks _ (chained_bounded 2 many p i st h g) w)
  consumed (branches d p i many ∷ ks) st g (h and w) = by_test (is 124 s) (goes g (tt and h and w)) (consumed ks _ (chained_bounded 1 many p i st h g) w)
  -- ranges of characters
  consumed (character_tail p ∷ ks) st g (h and w) = by_test (is 126 s) (goes g (h and w)) (consumed ks _ (leaf_bounded 6 p 0 0 0 0 st h g) w)
  consumed (last_character p ∷ ks) st g (h and w) = by_test (is 9 s) (goes (leaf_bounded 7 p s.start 0 0 0 st h g) w) faults
  -- uint
  consumed (width d p ∷ ks) st g (h and w) = by_test (is 2 s) (goes g (tt and h and w)) faults
  consumed (field_set d p q ∷ ks) st g (h and w) =
      by_test (is 8 s) (goes g (tt and h and w))
      (item_placed st (exception d ∷ alternatives d ∷ field_end p q 0 0 (terms_of st) ∷ ks) g (tt and tt and (h, omega arith) and w))
  consumed (bound_name d p q ∷ ks) st g (h and w) = by_test (is_name s) (goes (bind_bounded st g) (tt and tt and tt and (h, v) and w)) faults
  consumed (field_end p q name how f ∷ ks) st g (h and w) = by_test (is 41 s) (goes (insert_bounded 8 p (nodes_of st) q name f (terms_of st) how st h.0 h.1 g) w) faults
  -- switches
  consumed (colon d f ∷ ks) st g (h and w) = by_test (is 58 s) (goes g (tt and tt and w)) faults
  consumed (case_end i f end ∷ ks) st g (h and w) = by_test (is 59 s) (goes (condition_bounded i f end st g) w) faults
  consumed (cases d p i ∷ ks) st g (h and w) =
      by_test (is 93 s) (goes (insert_bounded 4 p i 0 0 0 0 0 st h (omega arith) g) w)
      (by_test (is 58 s) (goes g (tt and tt and h and w)) (test_placed d st (joined d ∷ colon d (terms_of st) ∷ cases d p i ∷ ks) g (tt and tt and h and w)))
  consumed (switch_end p i ∷ ks) st g (h and w) = by_test (is 93 s) (goes (insert_bounded 4 p i 0 0 0 0 0 st h (omega arith) g) w) faults
  -- rules
  consumed (rules any ∷ ks) st g (h and w) = by_test (is_name s) (goes g (tt and tt and v and tt and w)) (by_test (any && is 5 s) (ends g) faults)
  consumed (rule_end p i ∷ ks) st g (h and w) = by_test (is 59 s) (goes (rule_bounded p i st h g) w) faults

-- ---- all terminals

-- a terminal from a place in the text stands in it, and ends in it
seen_inside : (xs : List ℕ) (at : ℕ) → at ≤ length xs → ((terminal_of xs at).start ≤ length xs) × ((terminal_of xs at).end ≤ length xs)
unfolding terminal_of
seen_inside xs at h =
    let p = bounds.placed xs at h in
    let z = seeing.seen_as xs (code_of (token_of xs at).kind) (token_of xs at).start (token_of xs at).end in
    (omega (arith, z.start_is, p.ordered, p.inside), omega (arith, z.end_is, p.inside))

module _ (xs : List ℕ) (f : State) where
  -- what is shown of the terminals that are left
  abbrev Reads : List Terminal → Type 0
  Reads ss = (st : State) (ks : List Symbol) → Bounded (length xs) st → Waiting (length xs) ks → run ss st ks ≡ right f → Bounded (length xs) f

  one_more : (s : Terminal) (ss : List Terminal) → s.start ≤ length xs → Reads ss → Reads (s ∷ ss)
  unfolding run
  one_more s ss v h st ks g w e = by (consumed s v ks st g w) e
    where
      by : {r : Consumed} → Leaves (length xs) r → elim r [ go st' ks' ↦ run ss st' ks' | done st' ↦ right st' | fault ↦ refused s.start ] ≡ right f → Bounded (length xs) f
      by (goes {st} {ks} b u) z = h st ks b u z
      by (ends {st} b) z = let y : st ≡ f = cc in subst (Bounded (length xs)) y b
      by faults z = let y : ◌≡◌ {A = ℕ} 0 1 = cc in absurd (omega arith)

  none_left : Reads []
  unfolding run
  none_left st ks g w e = let y : ◌≡◌ {A = ℕ} 0 1 = cc in absurd (omega arith)

  read_all : (n at : ℕ) → at ≤ length xs → Reads (terminals n xs at)
  unfolding terminals
  read_all zero at h = none_left
  read_all (suc n) at h =
      let i = seen_inside xs at h in
      one_more (terminal_of xs at) _ i.0 (choice Reads (eqb (terminal_of xs at).code 5) none_left (read_all n (terminal_of xs at).end i.1))

pub placed : (xs ns ts rs : List ℕ) (n t b r : ℕ) → run (terminals_from xs 0) blank (rules false ∷ []) ≡ right (state ns ts rs n t b r) → Placed (length xs) ns ts rs
placed xs ns ts rs n t b r e =
    let g : Bounded (length xs) (state ns ts rs n t b r) = read_all xs (state ns ts rs n t b r) (suc (length xs)) 0 (omega arith) blank (rules false ∷ []) blank_bounded (tt and empty) e in
    record { nodes = λ j h. (g.nodes j, g.seconds j); terms = λ j h. (g.terms j, g.origins j); rules = λ j h. g.rules j }

-- a refusal stands in the text too
module _ (xs : List ℕ) (p : ℕ) where
  abbrev Stops : List Terminal → Type 0
  Stops ss = (st : State) (ks : List Symbol) → run ss st ks ≡ refused p → p ≤ length xs

  stop_more : (s : Terminal) (ss : List Terminal) → s.start ≤ length xs → Stops ss → Stops (s ∷ ss)
  unfolding run
  stop_more s ss v h st ks e = by (consume s st ks) e
    where
      by : (r : Consumed) → elim r [ go st' ks' ↦ run ss st' ks' | done st' ↦ right st' | fault ↦ refused s.start ] ≡ refused p → p ≤ length xs
      by (go st' ks') z = h st' ks' z
      by (done st') z = let y : ◌≡◌ {A = ℕ} 0 1 = cc in absurd (omega arith)
      by fault z = let y : s.start ≡ p = cc in omega (arith, y)

  stop_none : Stops []
  unfolding run
  stop_none st ks e = let y : 0 ≡ p = cc in omega (arith, y)

  stop_all : (n at : ℕ) → at ≤ length xs → Stops (terminals n xs at)
  unfolding terminals
  stop_all zero at h = stop_none
  stop_all (suc n) at h =
      let i = seen_inside xs at h in
      stop_more (terminal_of xs at) _ i.0 (choice Stops (eqb (terminal_of xs at).code 5) stop_none (stop_all n (terminal_of xs at).end i.1))

pub refused_inside : (xs : List ℕ) (st : State) (ks : List Symbol) (p : ℕ) → run (terminals_from xs 0) st ks ≡ refused p → p ≤ length xs
refused_inside xs st ks p e = stop_all xs p (suc (length xs)) 0 (omega arith) st ks e
