-- What all layers ask of a construct, a row for each kind.
-- Assumes nothing.
use Rattle.std.specs.Prelude.{ℕ, Bool, false}
use Rattle.table_layout.specs.declared.Construct.{Construct}
use Rattle.table_layout.specs.declared.Passes.{Passes}
use Rattle.table_layout.specs.declared.Below.{Below}
use Rattle.table_layout.specs.declared.OwnList.{OwnList}
use Rattle.table_layout.specs.declared.Attributes.{Attributes}

-- the counts of a repetition: only `{…}` has terms
abbrev pub counts_list : Passes → OwnList
counts_list Passes.Optional = OwnList.None
counts_list Passes.Any = OwnList.None
counts_list Passes.Some = OwnList.None
counts_list (Passes.Counted start end) = OwnList.Counts start end

-- size: how many constructs it is, itself and all below it; a missing one is none
-- below: what stands below it. Parts are the constructs from the one after it up to its size
-- own: its own list of terms
-- rule: the rule that it uses; 64, which is no rule's number, where it uses none
-- length: how many bytes it has in the area of literals
-- width: of a uint or sint, how many bits
-- binder: 1 + the variable that it binds, or 0
-- signed: it is a sint
abbrev pub row : ℕ → Below → OwnList → ℕ → ℕ → ℕ → ℕ → Bool → Attributes
row size below own rule length width binder signed =
    record { size = size; below = below; own = own; rule = rule; length = length; width = width; binder = binder; signed = signed }

-- by its kind
abbrev pub attributes_of : Construct → Attributes
attributes_of Construct.Missing = row 0 Below.Nothing OwnList.None 64 0 0 0 false
attributes_of (Construct.Alternative size) = row size Below.Branches OwnList.None 64 0 0 0 false
attributes_of (Construct.Concatenation size) = row size Below.Members OwnList.None 64 0 0 0 false
attributes_of (Construct.Repetition size passes) = row size (Below.Body passes) (counts_list passes) 64 0 0 0 false
attributes_of (Construct.Switch size) = row size Below.Cases OwnList.None 64 0 0 0 false
attributes_of (Construct.Use rule) = row 1 Below.Rule OwnList.None rule 0 0 0 false
attributes_of (Construct.Literal length) = row 1 Below.Nothing OwnList.None 64 length 0 0 false
attributes_of (Construct.Range low high) = row 1 Below.Nothing OwnList.None 64 0 0 0 false
attributes_of (Construct.Uint signed width start end binder) = row 1 Below.Nothing (OwnList.Set start end) 64 0 width binder signed
attributes_of Construct.Eod = row 1 Below.Nothing OwnList.None 64 0 0 0 false
