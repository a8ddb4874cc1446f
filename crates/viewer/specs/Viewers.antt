-- "a viewer that holds the certificate bytes and its position": after an opening, and after a step.
use Rattle.std.specs.Prelude.{ℕ, List}
use Rattle.std.specs.Borrow.{Bor}
use Rattle.rules.specs.Viewer.{opening_at}
use Rattle.reading.specs.Calls.{opening_on, view_on}
use Rattle.viewer.specs.declared.Viewer.{Viewer}
use Rattle.viewer.specs.declared.Opened.{Opened}
use Rattle.viewer.specs.declared.Stepped.{Stepped}

-- "It opens at position 0, refused or not"
abbrev pub opened_by : Bor (List ℕ) → ℕ → Opened
opened_by der which = record {
  answer = opening_on which der.now;
  viewer = record { der = der; which = which; at = opening_at };
}

-- what is shown from its position, and the same bytes and string at the position after that
abbrev pub stepped_by : Viewer → Stepped
stepped_by v = record {
  row = (view_on v.which v.der.now v.at).row;
  viewer = record { der = v.der; which = v.which; at = (view_on v.which v.der.now v.at).at };
}
