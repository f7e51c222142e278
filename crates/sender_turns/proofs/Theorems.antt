-- Change request 11/13: the theorems of specs/Claims.antt, each with the file of its proof. Assumes nothing.
use Prim.Native.Nat.{ℕ, ◌≤◌}
use Rattle.sender_turns.specs.Sender.{Sender, calls, fresh}
use Rattle.sender_turns.specs.Claims.{FairTurns, EightIsExact, OrderKept, OrderKeptOver, Settled, StaysSettled, SettledIsReached, OneGrant, UnknownReply, ResumeEmpties, GrantedAtOnce, AloneAllFour}
use Rattle.sender_turns.proofs.Fair as Fair
use Rattle.sender_turns.proofs.Order as Order
use Rattle.sender_turns.proofs.Settled as Settling
use Rattle.sender_turns.proofs.Reached as Reaching

pub fair_turns : FairTurns
fair_turns = Fair.fair_turns

pub eight_is_exact : EightIsExact
eight_is_exact = Fair.eight_is_exact

pub order_kept : OrderKept
order_kept = Order.order_kept

pub order_kept_over : OrderKeptOver
order_kept_over = Order.order_kept_over

pub fresh_settled : Settled fresh
fresh_settled = Settling.fresh_settled

pub stays_settled : StaysSettled
stays_settled = Settling.stays_settled

pub settled_is_reached : (bound : ℕ) → calls ≤ bound → (s : Sender) → SettledIsReached bound s
settled_is_reached = Reaching.settled_is_reached

pub one_grant : OneGrant
one_grant = Settling.one_grant

pub unknown_reply : UnknownReply
unknown_reply = Settling.unknown_reply

pub resume_empties : ResumeEmpties
resume_empties = Settling.resume_empties

pub granted_at_once : GrantedAtOnce
granted_at_once = Settling.granted_at_once

pub alone_all_four : AloneAllFour
alone_all_four = Order.alone_all_four
