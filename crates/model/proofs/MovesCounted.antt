-- The clerk's lines of change request 1/13: each is computed. Assumes nothing.
use mathlib.Core.Path.{refl}
use Rattle.model.specs.Facts.{fresh, fields_with, fields_at, event_with, event_of, edit_of, update, delete_of, create_of, behind_head}
use Rattle.model.specs.MovesCounted.{move, moved, shown, MovesCounted}
use Rattle.model.proofs.Computing.{computing}

pub moves_counted : MovesCounted
unfolding computing fresh fields_with fields_at event_with event_of edit_of update delete_of create_of behind_head move moved shown
moves_counted = record {
  four_wait = refl;
  none_elsewhere = refl;
  eight_wait = refl;
  still_taken = refl;
  cancelled = refl;
  kept_name = refl;
  new_name = refl;
}
