pub mod Field
pub mod Sbox
pub mod Aes
pub mod Width
