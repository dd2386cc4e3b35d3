mod Vaults
