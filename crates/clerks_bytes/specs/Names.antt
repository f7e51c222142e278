-- The bytes that name a party for each unit: what the code writes, by the bytes of the roles and of the lists. Assumes nothing.
use Rattle.std.specs.Prelude.{ℕ, zero, suc, ◌-◌, List, [], ◌∷◌, ◌++◌, Bool, cond, not, ◌&&◌, ◌||◌, length, drop, replicate}
use Rattle.attendees.specs.Entries.{entry_count, entry_bytes, address_of, own_of}
use Rattle.merge.specs.Parts.{owner_of, writer_of}
use Rattle.clerks_model.specs.Units.{fields_before, fields_behind}
use Rattle.clerks_bytes.specs.Entries.{stands_in}
use Rattle.clerks_bytes.specs.declared.frames.Party.{Party}
use Rattle.clerks_bytes.specs.declared.names.Order.{Order}

-- who writes first and second
unfoldable pub order_of : List ℕ → Party → Party → Order
order_of frame p q = record {
  first = p.number;
  second = q.number;
  first_owner = owner_of (drop p.role frame);
  second_owner = owner_of (drop q.role frame);
}

-- the party that can: the first to write if both, 0 if neither
abbrev pub pick : Order → (first second : Bool) → ℕ
pick o first second = cond first o.first (cond second o.second 0)

abbrev pub field_name : Order → ℕ
field_name o = pick o o.first_owner o.second_owner

abbrev pub rest_name : Order → Bool → ℕ
rest_name o own = pick o o.first_owner (o.second_owner && not own)

abbrev pub reply_name : Order → (first second : Bool) → ℕ
reply_name o first second = pick o (o.first_owner || first) (o.second_owner || second)

-- whether a role is an attendee's whose own entry has this address and stands in the list
unfoldable pub own_there_in : (role list address : List ℕ) → Bool
own_there_in role list address = own_of (owner_of role) (writer_of role) address && stands_in list address

-- of an entry; the list is the event's, p and q are the roles in the order of the writes
unfoldable pub entry_names : Order → (p q list address : List ℕ) → List ℕ
entry_names o p q list address =
    rest_name o (own_there_in p list address) ∷ reply_name o (own_there_in p list address) (own_there_in q list address) ∷ []

-- of an entry that neither of two lists has
unfoldable pub new_name : Order → (p q list before also address : List ℕ) → List ℕ
new_name o p q list before also address = cond (stands_in before address || stands_in also address) [] (entry_names o p q list address)

-- of those among the first n entries
unfoldable pub new_names : Order → (p q list before also entries : List ℕ) → ℕ → List ℕ
new_names o p q list before also entries zero = []
new_names o p q list before also entries (suc n) =
    new_names o p q list before also entries n ++ new_name o p q list before also (address_of (entry_bytes entries n))

-- of every unit
unfoldable pub unit_names : Order → (p q list one two : List ℕ) → List ℕ
unit_names o p q list one two =
    replicate (length fields_before) (field_name o)
    ++ new_names o p q list [] [] list (entry_count list)
    ++ new_names o p q list list [] one (entry_count one)
    ++ new_names o p q list list one two (entry_count two)
    ++ replicate (length fields_behind - 1) (field_name o)
    ++ o.first ∷ []
