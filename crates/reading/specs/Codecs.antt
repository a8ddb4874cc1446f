-- What each string's reader reads on the way, said for proofs/Codecs.antt.
use Rattle.std.specs.Prelude.{ℕ, Bool, ◌&&◌, List, ltb}
use Rattle.rules.specs.Bytes.{some?, all}
use Rattle.rules.specs.Der.{element, run, Group}
use Rattle.rules.specs.San.{GeneralName, tag_of, content_of}
use Rattle.rules.specs.Subject.{Attribute, write_attribute, good_attribute}
use Rattle.rules.specs.Constraints.{good_subtree}
use Rattle.reading.specs.Reader.{Raw, raw}
use Rattle.reading.specs.Strings.{in_order}

-- the element that a GeneralName is
abbrev pub raw_name : GeneralName → Raw
raw_name n = raw (tag_of n) (content_of n)

-- a set on its own: one or more good attributes, in ascending byte order
abbrev pub good_members : List Attribute → Bool
good_members s = all good_attribute s && in_order s

-- sets side by side, not yet numbered
abbrev pub write_members : List Attribute → List ℕ
write_members s = element 0x31 (run write_attribute s)

-- a side on its own: one or more good subtrees
abbrev pub good_filled : Group GeneralName → Bool
good_filled g = all good_subtree g.members && (some? g.members && ltb g.number 2)
