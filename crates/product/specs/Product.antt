-- The product's two algorithms.
use Rattle.integrity.specs.Algorithms.{Macs}
use Rattle.hmac.specs.Algorithms.{hmac_md5_tag, hmac_sha1_tag}
use Rattle.product.specs.declared.pcscf.Pcscf.{Pcscf}
use Rattle.proxy.specs.State.{State}
use Rattle.proxy.specs.Stated.{state_of}

-- 1 is HMAC-MD5-96 (RFC 2403), 2 is HMAC-SHA-1-96 (RFC 2404)
abbrev pub macs : Macs
macs = record { one = hmac_md5_tag; two = hmac_sha1_tag }

-- the state of the product's proxy
abbrev pub state_in : Pcscf → State
state_in p = state_of p.proxy
