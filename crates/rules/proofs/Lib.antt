-- The examples of document 01, about the definitions of specs/ themselves: `marked` is P1 to P16, `desk` the others;
-- `viewer`, `san_values_lem` and `record_values_lem`, and `issuers` are those of requests 3/13, 4/13 and 6/13.
pub mod Text
pub mod Holds
pub mod Test
pub mod Marked
pub mod Certificates
pub mod Desk
pub mod Writers
pub mod Issuers
-- The names of document 01 as it writes them: parts joined to a text. `Joined` states them, the rest is their proof.
pub mod Cases
pub mod Cut
pub mod Lengths
pub mod Free
pub mod Labels
pub mod Joined
pub mod JoinedNames
pub mod JoinedUri
-- What a wildcard that breaks no excluded dNSName subtree cannot match: `kept_out`.
pub mod SameLabels
pub mod KeptOut
