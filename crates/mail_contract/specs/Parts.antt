-- Which parts of the contract a kind of end keeps, beside what all keep.
use Rattle.std.specs.Prelude.{Bool}

pub record Parts : Type 0 where
  -- a sender that was beside the box is shown until it is told apart or taken in, and no more than 64 of its messages are left then
  pub shows : Bool
  -- of a shown sender only messages are taken that it had sent when it was last beside the box, and no more than were left then
  pub bounded : Bool
  -- a send is refused for want of a place only where 64 messages or more may take one up: those that were not taken when the sender was last beside its box, and those sent since
  pub roomy : Bool
  -- where it is known of every sender how many messages are left, no more than those are taken
  pub finite : Bool
  -- where a message is left that a shown sender had sent when it was last beside the box, one is taken before nothing is found; a box that hands out in order does so where it is complete
  pub advances : Bool
  -- a sender of whose messages none was missing when it was last beside its box finds a place for the next
  pub freed : Bool
  -- before nothing is found, all is taken that a shown sender had sent when it was last beside the box; and then it is told that what was taken was sent by it
  pub complete : Bool
  -- nothing is found only where nothing is left
  pub exact : Bool
  -- senders take turns: where a message of one is taken, nothing is left of those whose turn came before
  pub turns : Bool
  -- no take wants for memory
  pub sure : Bool
