pub mod Keypairs
