-- What can be read of a state, and the line that shows it. Assumes nothing.
use Rattle.std.specs.Prelude.{ℕ, ◌+◌, ◌*◌, List, [], ◌∷◌, ◌++◌, length, Option}
use Rattle.format.specs.Format.{Format, ◌⊗◌, option, list, number}
use Rattle.lines.specs.Lines.{digits}
use Rattle.model.specs.Event.{Text, ProviderEvent}
use Rattle.model.specs.Seam.{RequestId, ResourceId}
use Rattle.model.specs.State.{Map, Queue, SyncState, new}
use Rattle.model.specs.Limits.{Limits, document01}
use Rattle.model.specs.Maps.{map, keys}
use Rattle.model.specs.Machine.{match◌none:◌some:◌}
use Rattle.model.specs.Sizes.{id_bytes, event_bytes, option_bytes}
use Rattle.model.specs.Formats.{Bytes, resource_id, short_text, u64, event_f}
use Rattle.model.specs.Entry.{read_state}

-- a queue's resource, and how many edits wait in it
abbrev pub counted : ResourceId × Queue → ResourceId × ℕ
counted e = (e.0, length e.1)

abbrev pub Seen : Type 0
Seen = Option Text × (Map ResourceId ProviderEvent × (List RequestId × List (ResourceId × ℕ)))

-- the cursor, the records, the numbers in flight, and the queues, each in key order
unfoldable pub seen : SyncState → Seen
seen s = (s.cursor, (s.records, (keys s.in_flight, map counted s.edits)))

abbrev pub record_f : Format (ResourceId × ProviderEvent)
record_f = resource_id ⊗ event_f

-- a waiting count is one byte
abbrev pub queue_f : Format (ResourceId × ℕ)
queue_f = resource_id ⊗ number 1

-- their bytes, by the frame's rule
unfoldable pub seen_f : Limits → Format Seen
seen_f limits = option short_text ⊗ list limits.records record_f ⊗ list limits.in_flight u64 ⊗ list limits.waiting queue_f

-- the state that a buffer holds: a fresh one where it holds none
unfoldable pub held_state : Bytes → SyncState
held_state bytes = match read_state document01 bytes none: new some: (λ s. s)

-- the line: the digits, and a line feed
unfoldable pub look_line : Bytes → Bytes
look_line bytes = digits ((seen_f document01).enc (seen (held_state bytes))) ++ (10 ∷ [])

-- the most bytes of what is seen, and of its line
unfoldable pub seen_bytes : Limits → ℕ
seen_bytes limits =
    option_bytes + ((1 + limits.records * (id_bytes + event_bytes)) + ((1 + limits.in_flight * 8) + (1 + limits.waiting * (id_bytes + 1))))

unfoldable pub look_bytes : Limits → ℕ
look_bytes limits = seen_bytes limits + seen_bytes limits + 1
