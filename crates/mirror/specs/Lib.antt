pub mod Tears
