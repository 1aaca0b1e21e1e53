pub mod Words
pub mod Digest
pub mod Md5
pub mod Sha1
pub mod Hmac
pub mod Algorithms
