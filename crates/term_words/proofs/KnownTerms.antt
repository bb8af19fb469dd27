-- Terms whose words have a meaning: neither bad nor of an unknown operation.
-- Assumes nothing.
use mathlib.Core.List.{List, [], ◌∷◌}
use Rattle.term_words.specs.declared.Operation.{Operation}
use Rattle.term_words.specs.declared.Term.{Term}

abbrev pub KnownOperation : Operation → Type 0
KnownOperation (Operation.Number n) = Unit {0}
KnownOperation (Operation.Variable k) = Unit {0}
KnownOperation Operation.Add = Unit {0}
KnownOperation Operation.Subtract = Unit {0}
KnownOperation Operation.Multiply = Unit {0}
KnownOperation Operation.Negate = Unit {0}
KnownOperation Operation.Unknown = ⊥

abbrev pub KnownTerm : Term → Type 0
KnownTerm (Term.Part o) = KnownOperation o
KnownTerm (Term.Single o) = KnownOperation o
KnownTerm Term.All = Unit {0}
KnownTerm Term.Range = Unit {0}
KnownTerm Term.From = Unit {0}
KnownTerm Term.UpTo = Unit {0}
KnownTerm Term.Or = Unit {0}
KnownTerm Term.Except = Unit {0}
KnownTerm Term.And = Unit {0}
KnownTerm (Term.Compare k) = Unit {0}
KnownTerm Term.Bad = ⊥

abbrev pub AllKnown : List Term → Type 0
AllKnown [] = Unit {0}
AllKnown (x ∷ L) = KnownTerm x × AllKnown L
