-- What it means that a name breaks an issuer's constraints, and what a name that breaks none cannot match. Request 6/13.
use Rattle.std.specs.Prelude.{ℕ, ◌<◌, ◌≡◌, ◌↔◌, ◌⊎◌, Bool, List, T}
use Rattle.std.proofs.Math.Option.{some}
use Rattle.std.proofs.Math.ListN.{get_elem?}
use Rattle.rules.specs.Names.{domain, wildcard, dns_id, dns_matches, dns_within, dns_reaches, srv_id, in_subtree}
use Rattle.rules.specs.Der.{Member}
use Rattle.rules.specs.San.{GeneralName, plain, other, srv_oid}
use Rattle.rules.specs.Constraints.{permitted, excluded}
use Rattle.rules.specs.Matching.{breaks}

-- a name is an SRVName of this text; a dNSName of this text
abbrev pub IsSrv : GeneralName → List ℕ → Type 0
IsSrv name text = (tag : ℕ) × (name ≡ other srv_oid tag text)

abbrev pub IsDns : GeneralName → List ℕ → Type 0
IsDns name text = name ≡ plain 0x82 text

-- a string has a subtree of this form and text on this side
pub record Subtree (Is : GeneralName → List ℕ → Type 0) (string : List (Member GeneralName)) (side : ℕ) (text : List ℕ) : Type 0 where
  pub index : ℕ
  pub subtree : Member GeneralName
  pub subtree_at_lem : get_elem? string index ≡ some subtree
  pub side_is : subtree.group ≡ side
  pub text_is : Is subtree.value text

-- a name of this form and text breaks a string: the string holds a subtree of the form, and the text is no identifier of the form, or
-- breaks an excluded subtree, or lies in no permitted subtree where one exists
module _ (Is : GeneralName → List ℕ → Type 0) (id : List ℕ → Bool) (inside reaches : List ℕ → List ℕ → Bool) where
  pub record Breaks (string : List (Member GeneralName)) (text : List ℕ) : Type 0 where
    pub some_subtree : (side : ℕ) × (subtree : List ℕ) × (side < 2) × Subtree Is string side subtree
    pub not_allowed :
        ¬ T (id text)
        ⊎ ((subtree : List ℕ) × Subtree Is string excluded subtree × T (reaches subtree text))
        ⊎ (((subtree : List ℕ) × Subtree Is string permitted subtree)
        × ((subtree : List ℕ) → Subtree Is string permitted subtree → ¬ T (inside subtree text)))

-- which names break a string
pub record BreaksString (string : List (Member GeneralName)) (name : GeneralName) : Type 0 where
  pub srv : (text : List ℕ) → IsSrv name text → T (breaks string name) ↔ Breaks IsSrv srv_id in_subtree in_subtree string text
  pub dns : (text : List ℕ) → IsDns name text → T (breaks string name) ↔ Breaks IsDns dns_id dns_within dns_reaches string text
  -- "Other forms in the constraints are read and passed over."
  pub others : ((text : List ℕ) → ¬ IsSrv name text) → ((text : List ℕ) → ¬ IsDns name text) → ¬ T (breaks string name)

-- one of these strings has an excluded dNSName subtree of this text
pub record Excluded (strings : List (List (Member GeneralName))) (subtree : List ℕ) : Type 0 where
  pub issuer : ℕ
  pub string : List (Member GeneralName)
  pub string_at_lem : get_elem? strings issuer ≡ some string
  pub excluded_there : Subtree IsDns string excluded subtree

-- a dNSName of this text breaks none of them
abbrev pub BreaksNone : List (List (Member GeneralName)) → List ℕ → Type 0
BreaksNone strings text =
    (issuer : ℕ) (string : List (Member GeneralName)) → get_elem? strings issuer ≡ some string → ¬ T (breaks string (plain 0x82 text))

pub record KeptOut (strings : List (List (Member GeneralName))) (text subtree : List ℕ) : Type 0 where
  -- "a wildcard dNSName that breaks no string matches no domain in an excluded dNSName subtree"
  pub wildcard_kept_out :
      T (wildcard text) → BreaksNone strings text → Excluded strings subtree
      → (d : List ℕ) → T (domain d) → T (dns_within subtree d) → ¬ T (dns_matches d text)
  -- and a dNSName without a wildcard lies in none
  pub plain_kept_out : T (domain text) → BreaksNone strings text → Excluded strings subtree → ¬ T (dns_within subtree text)
