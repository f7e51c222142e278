use Rattle.versions.proofs.Laws as laws
use native.Mathlib.Omega.{arith}
use Rattle.versions.proofs.revision_place.Goals as goal

pub overflow_add-at : goal.overflow_add-at
overflow_add-at c =
    let h = laws.event_room c.args.buf.now c.args.at c.requires in
    omega arith

pub after_text-ical_uid-requires : goal.after_text-ical_uid-requires
after_text-ical_uid-requires c =
    let h = laws.event_room c.args.buf.now c.args.at c.requires in
    omega arith

pub after_option-series_id-requires : goal.after_option-series_id-requires
after_option-series_id-requires c =
    let h = laws.uid_room c.requires.event c.args.buf.now _ (laws.uid_at c.requires.event c.args.buf.now c.args.at _ c.requires.stands c.after_text-ical_uid.ensures) in
    omega arith

pub after_option-requires : goal.after_option-requires
after_option-requires c =
    let h = laws.series_room c.requires.event c.args.buf.now _ (laws.series_at c.requires.event c.args.buf.now _ _ (laws.uid_at c.requires.event c.args.buf.now c.args.at _ c.requires.stands c.after_text-ical_uid.ensures) c.after_option-series_id.ensures) in
    omega arith

pub returns : goal.returns
returns c = λ e s. laws.revision_at e c.args.buf.now _ _ (laws.series_at e c.args.buf.now _ _ (laws.uid_at e c.args.buf.now c.args.at _ s c.after_text-ical_uid.ensures) c.after_option-series_id.ensures) c.after_option.ensures
