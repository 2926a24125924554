-- What the network of a running cell does with messages, by a policy.
use Rattle.std.specs.Prelude.{ℕ, ◌+◌, ◌%◌, ◌^◌, ◌==◌, ◌&&◌, not, Bool, if◌then◌else◌, Some}
use Rattle.cell_seats.specs.declared.mailboxes.NetworkState.{NetworkState}
use Rattle.cell_seats.specs.declared.mailboxes.AddressedMessage.{AddressedMessage}
use Rattle.cell_seats.specs.declared.mailboxes.DeliveryOutcome.{DeliveryOutcome}
use Rattle.cell_seats.specs.declared.mailboxes.Policy.{Policy}
use Rattle.cell_seats.specs.declared.mailboxes.DeliveryOutcome.TheVariants.{Lost, Once, Twice, Held}

-- one of each so many, and none where it is 0
abbrev pub is_due : ℕ → ℕ → Bool
is_due every number = not (every == 0) && (number % every == 0)

-- messages have numbers in the order in which they come, from 1, modulo 2^64
abbrev pub next_number : NetworkState → ℕ
next_number n = (n.count + 1) % 2 ^ 64

abbrev pub is_dropped : Policy → NetworkState → Bool
is_dropped p n = is_due p.drop_every (next_number n)

abbrev pub is_held : Policy → NetworkState → Bool
is_held p n = is_due p.hold_every (next_number n)

abbrev pub is_repeated : Policy → NetworkState → Bool
is_repeated p n = is_due p.repeat_every (next_number n)

-- The next message is lost, or held up and the one before it that was held up goes on, or comes twice, or once.
abbrev pub outcome_of : Policy → NetworkState → DeliveryOutcome
outcome_of p n = if is_dropped p n then Lost else if is_held p n then Held n.held else if is_repeated p n then Twice else Once

abbrev pub network_after : Policy → NetworkState → AddressedMessage → NetworkState
network_after p n message = record { count = next_number n; held = if is_dropped p n then n.held else if is_held p n then Some message else n.held }
