-- What the readers of rules promise: as `Cursors.Reads`, with the words of rules among what changes.
-- Assumes nothing.
use Rattle.std.specs.Prelude.{ℕ, ◌≤◌, ◌<◌, ◌≡◌, Bool, true, false, List, [], ◌∷◌, eqb}
use Rattle.text_parsing.specs.Terminals.{terminals_from}
use Rattle.text_store.specs.Store.{state}
use Rattle.text_parsing.specs.Symbols.{rule_end, rules}
use Rattle.text_parsing.specs.Symbols.{Symbol}
use Rattle.text_parsing.specs.Form.{Outcome, right, refused, run}
use Rattle.text_parsing.specs.Cursors.{state_at, resume, left}
use Rattle.text_parsing.specs.declared.Cursor.{Cursor}

-- the end of a rule is read
pub record Ends (xs : List ℕ) (p i : ℕ) (c : Cursor) (rs : List ℕ) (r : Cursor) (rs' : List ℕ) : Type 0 where
  pub reads : (ns ts : List ℕ) (ks : List Symbol) → resume xs c ns ts rs (rule_end p i ∷ ks) ≡ resume xs r ns ts rs' ks
  pub falls : left xs r ≤ left xs c

-- a rule is read, and more may follow
pub record ReadsRule (xs : List ℕ) (c : Cursor) (ns ts rs : List ℕ) (r : Cursor) (ns' ts' rs' : List ℕ) : Type 0 where
  pub reads : (any : Bool) (ks : List Symbol) → resume xs c ns ts rs (rules any ∷ ks) ≡ resume xs r ns' ts' rs' (rules true ∷ ks)
  pub falls : left xs r < left xs c

-- The form of a text after its header, with the words of nodes, terms and rules that it starts from: what is read, or the place of refusal 4.
unfoldable pub form_of : List ℕ → (ns ts rs : List ℕ) → Outcome
form_of xs ns ts rs = run (terminals_from xs 0) (state ns ts rs 0 0 0 0) (rules false ∷ [])

-- what a cursor says at the end: code 0 is a refusal
abbrev pub outcome_of : Cursor → (ns ts rs : List ℕ) → Outcome
outcome_of c ns ts rs = elim (eqb c.code 0) [ true ↦ refused c.start | false ↦ right (state_at c ns ts rs) ]
