-- What each function of the crate returns, by its own tests.
use mathlib.Core.Path.{◌≡◌, refl}
use Prim.Native.Nat.{ℕ, ◌-◌}
use Rattle.presented.specs.Presented.{shown_at}
use Rattle.presented.proofs.Entries.{text_none, text_dns, text_srv, text_uri, blocks_dns, blocks_uri, blocks_srv, san_run, blocks_begin, blocks_end, blocks_here, blocks_next, sets_blocked, sets_open}
use Rattle.presented.proofs.Sets.{there_is, there_read, attribute_found, attribute_never, text_ends, attribute_cn, attribute_silent, attribute_other, set_found, set_run, set_begin, set_less, set_again, set_step, set_over}
use Rattle.der.specs.Runs.{start_found, start_none}

pub shown_is : (at text next : ℕ) → record { element = record { start = at; length = next - at }; text = record { start = text; length = next - text } } ≡ shown_at at text next
unfolding shown_at
shown_is at text next = refl

pub ruleset laws = (shown_is, text_none, text_dns, text_srv, text_uri, sets_blocked, sets_open, start_found, start_none)

-- of an element that is there, of an attribute, and of a set
pub ruleset reading = (there_is, there_read)

pub ruleset attributes = (attribute_found, attribute_never, text_ends, attribute_cn, attribute_silent, attribute_other)

pub ruleset sets = (set_found, set_run, set_begin, set_less, set_again, set_step, set_over)

-- of an entry that keeps CN references from counting, and of the walk that seeks one
pub ruleset blocking = (blocks_dns, blocks_uri, blocks_srv)

pub ruleset walk = (san_run, blocks_begin, blocks_end, blocks_here, blocks_next)
