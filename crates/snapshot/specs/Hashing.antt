-- What a hasher of an image was given (this project's own).
use Rattle.std.specs.Prelude.{◌≡◌, List, ℕ, [], take, Option, Some, None, ⊤}
use Rattle.sha2.specs.declared.Sha256.{Sha256}
use Rattle.sha2.specs.Hashers.{Holds256}
use Rattle.snapshot.specs.declared.hashed_image.GivenImage.{GivenImage}
use Rattle.snapshot.specs.declared.hashing.ImageHasher.{ImageHasher}

-- these bytes are the first of an image whose digest is known, and none is hashed
pub record HashesAlong (hasher : Sha256) (known : GivenImage) (bytes : List ℕ) : Type 0 where
  pub unhashed : Holds256 hasher []
  pub front : bytes ≡ take known.given known.process_image

-- these bytes were given: they are of the known image, or else the hasher holds them
abbrev pub HashesBy : Option GivenImage → Sha256 → List ℕ → Type 0
HashesBy (Some known) hasher bytes = HashesAlong hasher known bytes
HashesBy None hasher bytes = Holds256 hasher bytes

-- it was given these bytes
abbrev pub Hashes : ImageHasher → List ℕ → Type 0
Hashes h bytes = HashesBy h.known h.hasher bytes

-- the same image, or none, of which no byte was given
abbrev pub GivesNone : Option (List ℕ) → Option GivenImage → Type 0
GivesNone None None = ⊤
GivesNone (Some image) (Some known) = (known.process_image ≡ image) × (known.given ≡ 0)
GivesNone None (Some known) = ⊥
GivesNone (Some image) None = ⊥
