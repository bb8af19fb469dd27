-- The table's words of a text that passes 3 to 6, and that there are none of a text that does not.
-- Assumes nothing.
use Rattle.std.specs.Prelude.{ℕ, ◌≤◌, ◌≡◌, Bool, true, false, List, length, drop, replicate}
use Rattle.basis.specs.Limits.{max_text_bytes, table_words}
use Rattle.text_header.specs.Header.{header_of}
use Rattle.text_header.specs.declared.Heading.{Heading}
use Rattle.text_store.specs.Store.{State}
use Rattle.text_admission.specs.Admitted.{words_of, Named}

-- the words are as they were lent
abbrev pub Untouched : List ℕ → Type 0
Untouched words = words ≡ replicate table_words 0

-- the words of the rules xs, in which 4 to 6 find no fault
pub record Encoded (xs words : List ℕ) : Type 0 where
  pub st : State
  pub named : Named xs st
  pub same : words ≡ words_of xs st

-- an answer of false: 4 to 6 find a fault, and nothing is written
abbrev pub Encoding : (xs words : List ℕ) → Bool → Type 0
Encoding xs words true = Encoded xs words
Encoding xs words false = ((st : State) → Named xs st → ⊥) × Untouched words

-- of a whole text, after its header
pub record EncodedText (text words : List ℕ) : Type 0 where
  pub short : length text ≤ max_text_bytes
  pub base : ℕ
  pub headed : header_of text ≡ Heading.Rules base
  pub rules : Encoded (drop base text) words

-- an answer of false: the text is too long, its header is wrong, or its rules are
abbrev pub TextEncoding : (text words : List ℕ) → Bool → Type 0
TextEncoding text words true = EncodedText text words
TextEncoding text words false =
    (length text ≤ max_text_bytes → (base : ℕ) → header_of text ≡ Heading.Rules base → (st : State) → Named (drop base text) st → ⊥) × Untouched words
