mod MoreLines
mod Printable
mod Tables
mod Texts
