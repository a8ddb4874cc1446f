-- The parts of a URI-ID past its scheme.
use Rattle.std.specs.Prelude.{ℕ, Bool, cond, ◌&&◌, ◌||◌, List, eqb}
use Rattle.rules.specs.Bytes.{all, any, before, after}
use Rattle.rules.specs.Names.{is, colon, at_sign, digit, authority_end, domain, same_text}

-- a byte that ends the authority, or b
unfoldable pub stops : ℕ → ℕ → Bool
stops b x = authority_end x || eqb x b

-- of what follows "//": the authority past its "@", if it has one
unfoldable pub host_port : List ℕ → List ℕ
host_port rest =
    cond (any (is at_sign) (before authority_end rest)) (after (is at_sign) (before authority_end rest)) (before authority_end rest)

-- "a domain, optionally ":" and digits or nothing"
unfoldable pub hosted : List ℕ → Bool
hosted h = domain (before (is colon) h) && all digit (after (is colon) h)

-- and the domain is the reference's, without case
unfoldable pub host_matches : List ℕ → List ℕ → Bool
host_matches domain_name h = hosted h && same_text (before (is colon) h) domain_name
