-- The bytes of a head that updates or creates are what a merge is given. Assumes nothing.
use Rattle.std.specs.Prelude.{None, Option, Some}
use Prim.Native.Nat.{ℕ, ◌+◌, ◌-◌, ◌≤◌}
use native.Mathlib.Omega.{arith}
use mathlib.Core.Path.{◌≡◌, refl, sym, ap, ◌∙◌, subst}
use mathlib.Core.List.{List, [], ◌∷◌, ◌++◌, append_assoc, append-nil}
use lib.ListN.{length, take, drop, length-take, length-drop}
use lib.Seq.{drop-drop, take_all}
use Rattle.format.specs.Format.{Format, enum, ◌∣◌, via, ◌⊗◌}
use Rattle.spans.specs.Bytes.{zeros}
use Rattle.model.specs.Event.{NormalizedEvent, ProviderEvent}
use Rattle.model.specs.Seam.{ResourceId}
use Rattle.model.specs.Edits.{Operation}
use Rattle.model.specs.State.{Pending, SyncState}
use Rattle.model.specs.Formats.{operation_f, fields_f, event_f, role_f}
use Rattle.model.proofs.FormatsLaws.{fields_f_law}
use Rattle.state.specs.Layout.{padded, field}
use Rattle.state.specs.Contract.{Keeps}
use Rattle.frame.specs.Read.{skips, start}
use Rattle.frame.specs.declared.Cursor.{Cursor}
use Rattle.comparison.specs.Bytes.{span}
use Rattle.merge.specs.Given.{Begins}
use Rattle.merge.proofs.Stood.{Stood, next_is, next_drop}
use Rattle.waiting.specs.Queues.{queue, nth}
use Rattle.waiting.specs.Entries.{EntryAt, SomeEntryAt, EntryIs, FindsEntry}
use Rattle.writes.specs.Plans.{operation_part, ours_part, role_part, GivenAt}

pub begins_alone : {A : Type 0} (f : Format A) (v : A) {s : List ℕ} → f.Ok v → s ≡ f.enc v → Begins f s v
begins_alone f v k e = record { fits = k; rest = []; bytes = e ∙ sym (append-nil (f.enc v)) }

-- a field without its first byte
behind_first : (w : List ℕ) (at : ℕ) (x : List ℕ) → take 1469 (drop (at + 66) w) ≡ x → operation_part w at ≡ drop 1 x
unfolding operation_part
behind_first w at x e =
    let k : at + 1535 - (at + 67) ≡ 1468 = omega arith in
    let n : at + 67 ≡ at + 66 + 1 = omega arith in
    let d : drop 1 (take 1469 (drop (at + 66) w)) ≡ take 1468 (drop 1 (drop (at + 66) w)) = tail_take (drop (at + 66) w) in
    ap (λ (i : ℕ). take i (drop (at + 67) w)) k ∙ ap (λ (i : ℕ). take 1468 (drop i w)) n ∙ ap (take 1468) (sym (drop-drop 1 (at + 66) w)) ∙ sym d ∙ ap (drop 1) e
  where
    tail_take : (l : List ℕ) → drop 1 (take 1469 l) ≡ take 1468 (drop 1 l)
    tail_take [] = refl
    tail_take (y ∷ l) = refl

part_long : (w : List ℕ) (at : ℕ) → at + 5940 ≤ length w → length (operation_part w at) ≡ 1468
unfolding operation_part
part_long w at l = simp (length-take, length-drop) (omega arith)

module _ {r : ResourceId} {j : ℕ} {w : List ℕ} {s : SyncState} {at : ℕ} {p : Pending} (E : EntryAt r j w s at p) (K : Keeps s w) where
  long_enough : at + 5940 ≤ length w
  long_enough = let a = E.room in let b = K.long in omega arith

  pub role_begins : Begins role_f (role_part w at) p.edit.role
  unfolding role_part padded
  role_begins =
      let k : at + 1569 - (at + 1535) ≡ 34 = omega arith in
      record { fits = E.fits.role; rest = zeros (34 - length (role_f.enc p.edit.role)); bytes = ap (λ (i : ℕ). take i (drop (at + 1535) w)) k ∙ E.role }

  pub event_begins : (e : ProviderEvent) → p.edit.operation ≡ Operation.Create e → Begins event_f (operation_part w at) e
  unfolding operation_f via enum ◌∣◌ padded
  event_begins e q =
      let f : take 1469 (drop (at + 66) w) ≡ field 1469 operation_f (Operation.Create e) = E.operation ∙ ap (field 1469 operation_f) q in
      let ok : operation_f.Ok (Operation.Create e) = subst operation_f.Ok q E.fits.operation in
      record { fits = ok; rest = zeros (1469 - length (operation_f.enc (Operation.Create e))); bytes = behind_first w at (field 1469 operation_f (Operation.Create e)) f }

  module _ (b o : NormalizedEvent) (q : p.edit.operation ≡ Operation.Update b o) where
    fill : List ℕ
    fill = zeros (1469 - length (operation_f.enc (Operation.Update b o)))

    update_ok : operation_f.Ok (Operation.Update b o)
    update_ok = subst operation_f.Ok q E.fits.operation

    both : operation_part w at ≡ fields_f.enc b ++ (fields_f.enc o ++ fill)
    unfolding operation_f via enum ◌∣◌ ◌⊗◌ padded fill
    both =
        behind_first w at (field 1469 operation_f (Operation.Update b o)) (E.operation ∙ ap (field 1469 operation_f) q)
        ∙ append_assoc (fields_f.enc b) (fields_f.enc o) fill

    pub base_begins : Begins fields_f (operation_part w at) b
    unfolding operation_f via enum ◌∣◌ ◌⊗◌
    base_begins = record { fits = update_ok.0; rest = fields_f.enc o ++ fill; bytes = both }

    pub ours_begins : Begins fields_f (ours_part w at) o
    unfolding operation_f via enum ◌∣◌ ◌⊗◌ ours_part
    ours_begins =
        let S : Stood fields_f (operation_part w at) start b = record { ok = refl; fits = omega arith; tail = fields_f.enc o ++ fill; is = both; fine = update_ok.0 } in
        let n : ℕ = length (fields_f.enc b) in
        let a : (skips fields_f (operation_part w at) start).at ≡ 0 + length (fields_f.enc b) = ap (λ (c : Cursor). c.at) (next_is fields_f_law S) in
        let d : drop (0 + length (fields_f.enc b)) (operation_part w at) ≡ fields_f.enc o ++ fill = next_drop fields_f_law S in
        let l : length (operation_part w at) ≡ 1468 = part_long w at long_enough in
        let g : length (fields_f.enc o ++ fill) ≡ length (operation_part w at) - (0 + length (fields_f.enc b)) = ap length (sym d) ∙ length-drop (0 + length (fields_f.enc b)) (operation_part w at) in
        let h : length (fields_f.enc o ++ fill) ≤ 1468 - (0 + length (fields_f.enc b)) = omega arith in
        record {
          fits = update_ok.1;
          rest = fill;
          bytes = ap (λ (i : ℕ). span (operation_part w at) i 1468) a ∙ ap (take (1468 - (0 + length (fields_f.enc b)))) d ∙ take_all (1468 - (0 + length (fields_f.enc b))) (fields_f.enc o ++ fill) h;
        }

    pub given : {th : List ℕ} {t : ProviderEvent} → Begins event_f th t → GivenAt w at th b o t p.edit.role
    given B = record { base = base_begins; ours = ours_begins; theirs = B; role = role_begins }

-- the entry that was found
pub entry_found : (r : ResourceId) {w : List ℕ} {place : Option ℕ} {at : ℕ} → FindsEntry r 0 w place → place ≡ Some at → (s : SyncState) → Keeps s w → SomeEntryAt r 0 w s at
unfolding EntryIs
entry_found r {w} F e s h = subst (EntryIs r 0 w s) e (F.is s h)

pub no_entry : (r : ResourceId) {w : List ℕ} {place : Option ℕ} → FindsEntry r 0 w place → place ≡ None → (s : SyncState) → Keeps s w → nth 0 (queue r s) ≡ None
unfolding EntryIs
no_entry r {w} F e s h = subst (EntryIs r 0 w s) e (F.is s h)
