-- Change request 10/13: two clerks, one booking. The frame: the provider's event, then each party's role and wanted event. A wanted event is what an update
-- wants, so it has fields and no ids. Assumes nothing.
use Rattle.format.specs.Format.{Format, ◌⊗◌, via}
use Rattle.model.specs.Event.{NormalizedEvent, ProviderEvent}
use Rattle.model.specs.Parts.{Role}
use Rattle.model.specs.Formats.{fields_f, event_f, role_f}

pub record Party : Type 0 where
  pub role : Role
  pub wanted : NormalizedEvent

pub record Clerks : Type 0 where
  pub event : ProviderEvent
  pub one : Party
  pub two : Party

abbrev pub party_to : Role × NormalizedEvent → Party
party_to = λ (role, wanted). record { role = role; wanted = wanted }

abbrev pub party_from : Party → Role × NormalizedEvent
party_from p = (p.role, p.wanted)

abbrev pub clerks_to : ProviderEvent × (Party × Party) → Clerks
clerks_to = λ (event, (one, two)). record { event = event; one = one; two = two }

abbrev pub clerks_from : Clerks → ProviderEvent × (Party × Party)
clerks_from c = (c.event, (c.one, c.two))

unfoldable pub party_f : Format Party
party_f = via party_to party_from (role_f ⊗ fields_f)

unfoldable pub clerks_f : Format Clerks
clerks_f = via clerks_to clerks_from (event_f ⊗ party_f ⊗ party_f)
