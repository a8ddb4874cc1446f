-- What is read from the part of a slice from `at` to `end`, as places in the slice.
use Rattle.std.specs.Prelude.{ℕ, ◌-◌, List, Bool, true, false, cond, eqb, length, Result, Ok, Err}
use Rattle.std.proofs.Math.Seq.{slice}
use Rattle.rules.specs.Der.{good_tag}
use Rattle.reading.specs.Reader.{truncated, bad_length, Front, got, refused, Raw, content_after, read_element}
use Rattle.der.specs.declared.Element.{Element}
use Rattle.der.specs.declared.ElementError.{ElementError}
use Rattle.der.specs.declared.ElementError.TheVariants.{Truncated, BadLength, BadTag}

-- ---- elements

-- what the element reader answers: an element, or why none is read
abbrev pub Answer : Type 0
Answer = Result Element ElementError

-- an element's tag, where its content starts, and where the next element would start
abbrev pub found : ℕ → ℕ → ℕ → Answer
found t start next = Ok (record { tag = t; start = start; next = next })

-- what stands at the front of a part that ends at `end`
unfoldable pub place_element : ℕ → Front Raw → Answer
place_element end (refused truncated) = Err Truncated
place_element end (refused bad_length) = Err BadLength
place_element end (got x r) = found x.tag (end - length r - length x.content) (end - length r)

unfoldable pub element_at : List ℕ → ℕ → ℕ → Answer
element_at s at end = place_element end (read_element (slice at end s))

-- an element whose length is read: n bytes of content, from `start` on
unfoldable pub placed_at : List ℕ → ℕ → ℕ → ℕ → ℕ → Answer
placed_at s t start n end = place_element end (content_after t (got n (slice start end s)))

-- an element, where its tag passes a test
unfoldable pub tag_fits : (ℕ → Bool) → Answer → Answer
tag_fits p (Ok e) = cond (p e.tag) (Ok e) (Err BadTag)
tag_fits p (Err why) = Err why

unfoldable pub tagged_at : List ℕ → ℕ → ℕ → ℕ → Answer
tagged_at s at end wanted = tag_fits (λ t. eqb t wanted) (element_at s at end)

-- "low five bits all ones is unreadable"
unfoldable pub value_at : List ℕ → ℕ → ℕ → Answer
value_at s at end = tag_fits good_tag (element_at s at end)

abbrev pub found? : Answer → Bool
found? (Ok e) = true
found? (Err why) = false
