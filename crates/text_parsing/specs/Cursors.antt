-- What a reader of a part promises. A cursor holds the terminal that comes next and what was counted; code 0 says that reading has failed,
-- and the start is then the place of the refusal.
-- Assumes nothing.
use Rattle.std.specs.Prelude.{ℕ, suc, ◌-◌, ◌≤◌, ◌≡◌, true, false, List, ◌∷◌, ◌++◌, eqb, length}
use Rattle.basis.specs.Limits.{max_rules, max_constructs, max_variables, max_terms}
use Rattle.text_parsing.specs.Terminals.{terminal, terminal_of, terminals_after}
use Rattle.text_store.specs.Store.{State, state, counted}
use Rattle.text_parsing.specs.Symbols.{Symbol}
use Rattle.text_parsing.specs.Form.{Outcome, refused, run}
use Rattle.text_parsing.specs.declared.Cursor.{Cursor}
use Rattle.text_parsing.specs.declared.Terminal.{Terminal}

-- the terminal that comes next
abbrev pub terminal_at : Cursor → Terminal
terminal_at c = terminal c.code c.start c.end c.value

-- what is read so far: its counts, and the words of nodes, terms and rules
abbrev pub state_at : Cursor → List ℕ → List ℕ → List ℕ → State
state_at c ns ts rs = state ns ts rs c.nodes c.terms c.binders c.rules

-- one term, node, binder or rule more
abbrev pub term_more : Cursor → Cursor
term_more c =
    record { code = c.code; start = c.start; end = c.end; value = c.value; nodes = c.nodes; terms = counted max_terms c.terms; binders = c.binders; rules = c.rules }

abbrev pub node_more : Cursor → Cursor
node_more c =
    record { code = c.code; start = c.start; end = c.end; value = c.value; nodes = counted max_constructs c.nodes; terms = c.terms; binders = c.binders; rules = c.rules }

abbrev pub binder_more : Cursor → Cursor
binder_more c =
    record { code = c.code; start = c.start; end = c.end; value = c.value; nodes = c.nodes; terms = c.terms; binders = counted max_variables c.binders; rules = c.rules }

abbrev pub rule_more : Cursor → Cursor
rule_more c =
    record { code = c.code; start = c.start; end = c.end; value = c.value; nodes = c.nodes; terms = c.terms; binders = c.binders; rules = counted max_rules c.rules }

-- a cursor at a terminal, with what another has counted
abbrev pub counts_of : Terminal → Cursor → Cursor
counts_of s c =
    record { code = s.code; start = s.start; end = s.end; value = s.value; nodes = c.nodes; terms = c.terms; binders = c.binders; rules = c.rules }

-- at the first terminal of a text, nothing counted
abbrev pub first_of : List ℕ → Cursor
first_of xs =
    record {
      code = (terminal_of xs 0).code;
      start = (terminal_of xs 0).start;
      end = (terminal_of xs 0).end;
      value = (terminal_of xs 0).value;
      nodes = 0;
      terms = 0;
      binders = 0;
      rules = 0;
    }

-- at the terminal after this one
abbrev pub next : List ℕ → Cursor → Cursor
next xs c = counts_of (terminal_of xs c.end) c

-- this terminal cannot stand there
abbrev pub fail : Cursor → Cursor
fail c = counts_of (terminal 0 c.start c.end c.value) c

-- the outcome of reading on from a terminal
unfoldable pub resume_at : List ℕ → Terminal → State → List Symbol → Outcome
resume_at xs s st ks = elim (eqb s.code 0) [ true ↦ refused s.start | false ↦ run (s ∷ terminals_after xs s) st ks ]

-- the same, from a cursor on
abbrev pub resume : List ℕ → Cursor → List ℕ → List ℕ → List ℕ → List Symbol → Outcome
resume xs c ns ts rs ks = resume_at xs (terminal_at c) (state_at c ns ts rs) ks

-- what is left to read: it falls with each terminal
unfoldable pub left_at : List ℕ → Terminal → ℕ
left_at xs s = elim (eqb s.code 0) [ true ↦ 0 | false ↦ elim (eqb s.code 5) [ true ↦ 1 | false ↦ suc (suc (length xs - s.end)) ] ]

-- the same of a cursor
abbrev pub left : List ℕ → Cursor → ℕ
left xs c = left_at xs (terminal_at c)

-- Parts are read: what came before them with the parts waiting is what comes after them without, whatever else waits.
pub record Reads (xs : List ℕ) (parts : List Symbol) (c : Cursor) (ns ts : List ℕ) (r : Cursor) (ns' ts' : List ℕ) : Type 0 where
  pub reads : (rs : List ℕ) (ks : List Symbol) → resume xs c ns ts rs (parts ++ ks) ≡ resume xs r ns' ts' rs ks
  pub falls : left xs r ≤ left xs c

-- the same of parts that have terms only
abbrev pub ReadsTerms : List ℕ → List Symbol → Cursor → List ℕ → Cursor → List ℕ → Type 0
ReadsTerms xs parts c ts r ts' = (ns : List ℕ) → Reads xs parts c ns ts r ns ts'

-- the same of parts that have neither
abbrev pub ReadsOn : List ℕ → List Symbol → Cursor → Cursor → Type 0
ReadsOn xs parts c r = (ns ts : List ℕ) → Reads xs parts c ns ts r ns ts

-- the same of parts that have nodes only
abbrev pub ReadsNodes : List ℕ → List Symbol → Cursor → List ℕ → Cursor → List ℕ → Type 0
ReadsNodes xs parts c ns r ns' = (ts : List ℕ) → Reads xs parts c ns ts r ns' ts
