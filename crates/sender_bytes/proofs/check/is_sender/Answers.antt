use Rattle.std.proofs.Common.{sym, ◌∙◌, rules}
use Rattle.std.proofs.lemmas.Bool.{false≢true, le-ltb}
use Rattle.sender_bytes.proofs.SenderLaws.{lanes_eight, bad_turn, bad_lanes, bad_calls, passed}
use Rattle.sender_bytes.proofs.check.is_sender.Goals as goal
use Rattle.sender_bytes.proofs.check.is_sender.Goals.{then-sender-lt-MILLS, else-sender-lt-MILLS, then-are_lanes, else-are_lanes}

pub returns-then-are_calls : goal.returns-then-are_calls
returns-then-are_calls c =
    elim c.if-are_lanes.branch [
      | then-are_lanes w ↦
          elim c.if-sender-lt-MILLS.branch [
            | then-sender-lt-MILLS v ↦ passed _ _ v.if-sender-lt-MILLS.true (sym (lanes_eight c.args.sender.now.lanes _ (search rules) v.are_lanes.ensures) ∙ (sym v.value-is ∙ w.if-are_lanes.true)) (sym w.are_calls.ensures ∙ (sym w.value-is ∙ c.if-are_calls.true)) c.is_settled.ensures
            | else-sender-lt-MILLS v ↦ absurd (false≢true (sym (le-ltb _ _ v.if-sender-lt-MILLS.false) ∙ (sym v.value-is ∙ w.if-are_lanes.true)))
          ]
      | else-are_lanes w ↦ absurd (false≢true (sym w.if-are_lanes.false ∙ (sym w.value-is ∙ c.if-are_calls.true)))
    ]

pub returns-else-are_calls : goal.returns-else-are_calls
returns-else-are_calls c =
    elim c.if-are_lanes.branch [
      | then-are_lanes w ↦ rw c.if-are_calls.false (bad_calls _ (sym w.are_calls.ensures ∙ (sym w.value-is ∙ c.if-are_calls.false)))
      | else-are_lanes w ↦
          elim c.if-sender-lt-MILLS.branch [
            | then-sender-lt-MILLS v ↦ rw c.if-are_calls.false (bad_lanes _ (sym (lanes_eight c.args.sender.now.lanes _ (search rules) v.are_lanes.ensures) ∙ (sym v.value-is ∙ w.if-are_lanes.false)))
            | else-sender-lt-MILLS v ↦ rw c.if-are_calls.false (bad_turn _ v.if-sender-lt-MILLS.false)
          ]
    ]
