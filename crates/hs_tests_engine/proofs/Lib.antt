pub mod Varying
