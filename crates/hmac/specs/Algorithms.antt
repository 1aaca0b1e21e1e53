-- The two integrity algorithms of TS 33.203: tags of 96 bits.
use Rattle.std.specs.Prelude.{ℕ, List, ◌++◌, take, replicate}
use Rattle.hmac.specs.Hmac.{hmac_of}
use Rattle.hmac.specs.Md5.{md5}
use Rattle.hmac.specs.Sha1.{sha1}

-- algorithm 1, HMAC-MD5-96 (RFC 2403): the key is IK, and the tag the first 12 bytes of HMAC-MD5
unfoldable pub hmac_md5_tag : List ℕ → List ℕ → List ℕ
hmac_md5_tag ik text = take 12 (hmac_of md5 ik text)

-- algorithm 2, HMAC-SHA-1-96 (RFC 2404): the key is IK and four zero bytes (TS 33.203, annex I), and the
-- tag the first 12 bytes of HMAC-SHA-1
unfoldable pub hmac_sha1_tag : List ℕ → List ℕ → List ℕ
hmac_sha1_tag ik text = take 12 (hmac_of sha1 (ik ++ replicate 4 0) text)
